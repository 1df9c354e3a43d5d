-- What registers hold, where budgets and masks aren't read.
use Rattle.std.proofs.Common.{◌≡◌, ℕ, List, [], ◌∷◌, refl, ap, ◌∙◌}
use Rattle.grid_code.specs.declared.code.Register.{Register}
use Rattle.grid_code.specs.Masked.{read, reads}
use Rattle.grid_machine.specs.declared.machine.Machine.{Machine}
use Rattle.grid_machine.specs.State.{state_of, held_by}
use Rattle.grid_machine.proofs.Shapes.{read_held}

pub reads_held : (m : Machine) (rs : List Register) (i : ℕ) → reads (held_by m.registers) rs i ≡ reads (state_of m) rs i
reads_held m [] i = refl
reads_held m (r ∷ rs) i = ap (λ v. v ∷ reads (held_by m.registers) rs i) (read_held m r i) ∙ ap (λ vs. read (state_of m) r i ∷ vs) (reads_held m rs i)
