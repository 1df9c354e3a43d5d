use Rattle.std.proofs.Common.{◌≡◌, ℕ, ◌<◌, ◌≤◌, pos, length, get_or}
use Rattle.grid_machine.proofs.unloading.clear_piece.Given as goal

abbrev pub invariant-loop-k : goal.invariant-loop-k
invariant-loop-k l = record {
  long : length l.rows ≡ length l.initial.rows;
  before : (i : ℕ) → i < l.start → get_or l.rows i (pos 0) ≡ get_or l.initial.rows i (pos 0);
  zero : (i : ℕ) → l.start ≤ i → i < l.k → get_or l.rows i (pos 0) ≡ pos 0;
}
