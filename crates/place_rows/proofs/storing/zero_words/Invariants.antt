use Rattle.std.proofs.Common.{◌≡◌, ℕ, ◌*◌, length, get_or}
use Rattle.place_rows.proofs.storing.zero_words.Given as goal

abbrev pub invariant-loop : goal.invariant-loop
invariant-loop l = record {
  long : length l.row.items ≡ l.counter * 128;
  zero : (k : ℕ) → get_or l.row.items k 0 ≡ 0;
}
