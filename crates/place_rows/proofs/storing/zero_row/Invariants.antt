use Rattle.std.proofs.Common.{◌≡◌, ℕ, ◌*◌, pos, length, get_or}
use Rattle.place_rows.proofs.storing.zero_row.Given as goal

abbrev pub invariant-loop : goal.invariant-loop
invariant-loop l = record {
  long : length l.row.items ≡ l.counter * 256;
  zero : (k : ℕ) → get_or l.row.items k (pos 0) ≡ pos 0;
}
