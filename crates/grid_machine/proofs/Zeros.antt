-- Cells that are 0.
use Rattle.std.proofs.Common.{◌≡◌, ℕ, List, refl}
use Rattle.std.specs.Borrow.{Bor}
use Rattle.builtins.specs.declared.shape.Shape.{Shape}
use Rattle.builtins.specs.declared.shape.Shape.TheVariants as shapes
use Rattle.place_values.specs.Cells.{value_of}
use Rattle.place_rows.specs.Banks.{zero_cell}
use Rattle.grid_machine.specs.Run.{zero_of}

pub zero_is : (ts : List (Bor (List ℕ))) (s : Shape) → zero_of s ≡ value_of ts (zero_cell s)
zero_is ts shapes.Number = refl
zero_is ts shapes.Triple = refl
zero_is ts shapes.Word = refl
