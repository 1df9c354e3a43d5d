use Rattle.std.proofs.Common.{◌≡◌, ℕ, ◌<◌, length, get_or}
use Rattle.place_rows.proofs.storing.fill_words.Given as goal

abbrev pub invariant-loop-k : goal.invariant-loop-k
invariant-loop-k l = record {
  long : length l.words ≡ length l.initial.words;
  each : (j : ℕ) → j < l.k → get_or l.words j 0 ≡ l.word;
}
