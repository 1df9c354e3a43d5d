use Rattle.std.proofs.Common.{◌≡◌, ℕ, ◌<◌, ◌≤◌, pos, length, get_or}
use Rattle.place_rows.specs.Layout.{row_length}
use Rattle.grid_rows.specs.Rows.{IsRoom}
use Rattle.grid_rows.proofs.rows.write_numbers.Given as goal

abbrev pub invariant-loop-k : goal.invariant-loop-k
invariant-loop-k l = record {
  each : (j : ℕ) → j < l.k → get_or l.row j (pos 0) ≡ get_or l.numbers j (pos 0);
  rest : (j : ℕ) → length l.numbers ≤ j → j < row_length (length l.numbers) → get_or l.row j (pos 0) ≡ pos 0;
  room : IsRoom l.row;
}
