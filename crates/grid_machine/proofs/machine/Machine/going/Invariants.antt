use Rattle.std.proofs.Common.{◌≡◌, ℕ, ◌<◌, length, get_or, false}
use Rattle.grid_code.specs.Masked.{going}
use Rattle.grid_machine.specs.State.{state_of}
use Rattle.grid_machine.proofs.machine.Machine.going.Given as goal

abbrev pub invariant-loop-place : goal.invariant-loop-place
invariant-loop-place l = (length l.mask.places ≡ 289) × ((i : ℕ) → i < l.place → get_or l.mask.places i false ≡ going l.uniform l.fn.test (state_of l.self) i)
