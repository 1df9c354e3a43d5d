use Rattle.bound_split.specs.Extents.{pixels_of}
use Rattle.scene.specs.Scene.{FrameValue}
use Rattle.buckets.specs.Narrowing.{AreCandidates, AreExtents}
use Rattle.buckets.proofs.Gaps.{AreTaken}
use Rattle.buckets.proofs.candidates.Candidates.within.Given as goal

abbrev pub invariant-loop-place : goal.invariant-loop-place
invariant-loop-place l =
    (f : FrameValue) → AreExtents f l.extents → AreCandidates f l.self → AreTaken f (pixels_of l.part) l.self.numbers.items l.numbers.items l.place
