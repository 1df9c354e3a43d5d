use Rattle.std.proofs.Common.{◌≡◌, ℕ, ◌<◌, length}
use Rattle.lanes.specs.Masks.{turned}
use Rattle.lanes.specs.Rows.{at}
use Rattle.lanes.proofs.calls.not.Given as goal

abbrev pub invariant-loop-i : goal.invariant-loop-i
invariant-loop-i l = record {
  long : length l.out ≡ length l.initial.out;
  each : (k : ℕ) → k < l.i → at l.out k ≡ turned (at l.a k);
}
