use Rattle.std.proofs.Common.{List, ap, length, subst, sym}
use Rattle.bound_split.specs.Extents.{pixels_of}
use Rattle.scene.specs.Scene.{FrameValue, PrimValue}
use Rattle.buckets.specs.Narrowing.{AreNarrowed, Misses}
use Rattle.buckets.proofs.sights.Sights.behind.Goals as goal

pub returns-in-Some-clause-missed : goal.returns-in-Some-clause-missed
returns-in-Some-clause-missed c = λ k from to.
    let f = c.self.inside.frame.now in
    let are = subst (AreNarrowed f) (sym c.as_slice.ensures.value) c.self.invariant.narrowed in
    let count = ap (λ (ps : List PrimValue). length ps) (sym c.prims_of-count.ensures.prims) in
    subst (λ (g : FrameValue). Misses g (pixels_of c.args.tile) k) c.self.view_is (c.in-Some.ensures.missed f count are k from to)
