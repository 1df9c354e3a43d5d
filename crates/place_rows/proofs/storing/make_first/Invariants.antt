use Rattle.std.proofs.Common.{◌≡◌, ℕ, ◌<◌, ◌≤◌, ◌-◌, length, get_or}
use Rattle.place_rows.proofs.storing.make_first.Given as goal

abbrev pub invariant-loop-from : goal.invariant-loop-from
invariant-loop-from g l = record {
  inside : l.from ≤ l.count;
  long : length l.row ≡ length l.initial.row;
  each : (d : _) (i : ℕ) → i < l.from → get_or l.row i d ≡ l.value;
}

abbrev pub decreases-loop-from : goal.decreases-loop-from
decreases-loop-from g l = l.count - l.from
