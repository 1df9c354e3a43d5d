use Rattle.std.proofs.Common.{◌≡◌, length}
use Rattle.buckets.specs.Narrowing.{AreExtents}
use Rattle.buckets.proofs.sights.extents_of.Given as goal

abbrev pub invariant-loop-number : goal.invariant-loop-number
invariant-loop-number l = record {
  counted : length l.extents.items ≡ l.number;
  each : AreExtents l.frame l.extents.items;
}
