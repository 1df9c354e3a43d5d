use Rattle.std.proofs.Common.{◌≤◌, length}
use Rattle.scene.specs.Scene.{FrameValue}
use Rattle.buckets.specs.Narrowing.{AreExtents, AreNarrowed}
use Rattle.buckets.proofs.narrowing.narrow_to.Given as goal

abbrev pub invariant-loop : goal.invariant-loop
invariant-loop l = record {
  some : 1 ≤ length l.narrowed.items;
  each : (f : FrameValue) → AreExtents f l.extents → AreNarrowed f l.initial.narrowed.items → AreNarrowed f l.narrowed.items;
}
