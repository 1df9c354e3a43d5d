use Rattle.std.proofs.Common.{◌≤◌, length}
use Rattle.buckets.proofs.narrowing.holding.Given as goal

abbrev pub invariant-loop-count : goal.invariant-loop-count
invariant-loop-count l = record {
  within : l.count ≤ length l.narrowed;
  some : 1 ≤ length l.narrowed → 1 ≤ l.count;
}

abbrev pub decreases-loop-count : goal.decreases-loop-count
decreases-loop-count l = l.count
