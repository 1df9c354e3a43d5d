use Rattle.std.proofs.Common.{◌≡◌, ℕ, ◌<◌, length}
use Rattle.lanes.specs.Rows.{at}
use Rattle.lanes.proofs.calls.two_rows.Given as goal

abbrev pub invariant-loop-i : goal.invariant-loop-i
invariant-loop-i g l = record {
  long : length l.out ≡ length l.initial.out;
  each : (k : ℕ) → k < l.i → at l.out k ≡ g.K.Two.formula (at l.a k) (at l.b k);
}
