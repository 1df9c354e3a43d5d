use Rattle.std.proofs.Common.{◌≡◌, ℕ, ◌<◌, ◌≤◌, pos, get_or}
use Rattle.grid_rows.specs.Rows.{IsRoom}
use Rattle.grid_rows.proofs.rows.clear_rest.Given as goal

abbrev pub invariant-loop-k : goal.invariant-loop-k
invariant-loop-k l = record {
  zero : (j : ℕ) → l.points ≤ j → j < l.k → get_or l.row j (pos 0) ≡ pos 0;
  room : IsRoom l.row;
}
