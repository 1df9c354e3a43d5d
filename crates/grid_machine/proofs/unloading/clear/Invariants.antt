use Rattle.std.proofs.Common.{◌≡◌, ℕ, ◌*◌, ◌<◌, pos, length, get_or}
use Rattle.grid_machine.proofs.unloading.clear.Given as goal

abbrev pub invariant-loop-piece : goal.invariant-loop-piece
invariant-loop-piece l = (length l.rows ≡ length l.initial.rows) × ((i : ℕ) → i < 128 * l.piece → i < length l.initial.rows → get_or l.rows i (pos 0) ≡ pos 0)
