use Rattle.std.proofs.Common.{◌≡◌, ℕ, ◌<◌, ◌≤◌, length, get_or}
use Rattle.place_rows.proofs.storing.make_between.Given as goal

abbrev pub invariant-loop-n : goal.invariant-loop-n
invariant-loop-n g l = record {
  long : length l.row ≡ length l.initial.row;
  before : (d : _) (i : ℕ) → i < l.from → get_or l.row i d ≡ get_or l.initial.row i d;
  each : (d : _) (i : ℕ) → l.from ≤ i → i < l.n → get_or l.row i d ≡ l.value;
}
