-- For private contracts alone: what a machine needs of an instruction.
use Rattle.std.specs.Prelude.{◌≡◌, ℕ, Bool, true, List}
use Rattle.std.specs.Borrow.{Bor}
use Rattle.grid_code.specs.declared.code.Source.{Source}
use Rattle.grid_code.specs.declared.code.Source.TheVariants.{Constant}
use Rattle.grid_code.specs.declared.register_set.RegisterSet.{RegisterSet}
use Rattle.grid_code.specs.Uses.{has, source_within}
use Rattle.grid_code.specs.Valid.{has_operands}
use Rattle.place_values.specs.Cells.{is_known}

abbrev pub source_known : List (Bor (List ℕ)) → Source → Bool
source_known ts (Constant v) = is_known ts v
source_known ts _ = true

-- its registers, its operands and the text of its constant
pub record SourceReady (varying uniform : RegisterSet) (ts : List (Bor (List ℕ))) (o : Source) : Type 0 where
  pub within : source_within (has varying uniform) o ≡ true
  pub operands : has_operands o ≡ true
  pub known : source_known ts o ≡ true
