use Rattle.std.proofs.Common.{Option, subst, sym}
use Rattle.std.specs.Prelude.{IfSome}
use Rattle.scene.specs.Scene.{FrameValue}
use Rattle.buckets.specs.declared.candidates.Candidates.{Candidates}
use Rattle.buckets.specs.Narrowing.{AreCandidates, AreExtents, AreNarrowed}
use Rattle.buckets.proofs.Gaps.{last_is, narrowed_more}
use Rattle.buckets.proofs.narrowing.narrow.Goals as goal

pub returns-clause-each : goal.returns-clause-each
returns-clause-each c = λ f extents are.
    let xs = c.args.narrowed.now.items in
    let last = c.last_of.result.now in
    let half = c.in-Some.half in
    let gives : (f : FrameValue) → AreExtents f c.args.extents.now → AreCandidates f last → AreCandidates f half =
    subst (λ (o : Option Candidates). IfSome o (λ h. (f : FrameValue) → AreExtents f c.args.extents.now → AreCandidates f last → AreCandidates f h)) c.in-Some.is c.in_ok-half.ensures in
    subst (AreNarrowed f) (sym c.in_ok-push.ensures.items) (narrowed_more f xs half are (gives f extents (last_is f xs c.as_slice.result.now last c.as_slice.ensures.value are c.last_of.ensures)))
