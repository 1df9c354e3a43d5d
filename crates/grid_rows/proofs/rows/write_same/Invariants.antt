use Rattle.std.proofs.Common.{◌≡◌, ℕ, ◌<◌, ◌≤◌, pos, get_or}
use Rattle.place_rows.specs.Layout.{row_length}
use Rattle.grid_rows.specs.Rows.{IsRoom}
use Rattle.grid_rows.proofs.rows.write_same.Given as goal

abbrev pub invariant-loop-k : goal.invariant-loop-k
invariant-loop-k l = record {
  each : (j : ℕ) → j < l.k → get_or l.row j (pos 0) ≡ l.number;
  rest : (j : ℕ) → l.points ≤ j → j < row_length l.points → get_or l.row j (pos 0) ≡ pos 0;
  room : IsRoom l.row;
}
