use Rattle.std.proofs.Common.{◌<◌, ◌+◌, ◌∙◌, List, ap, arith, length, subst, sym, ℕ}
use Rattle.bound_split.specs.declared.extents.Extent.{Extent}
use Rattle.buckets.specs.Narrowing.{AreExtents}
use Rattle.buckets.proofs.Gaps.{extents_more, length_pushed, whole_extent}
use Rattle.buckets.proofs.sights.extents_of.Goals as goal

pub loop-number-preserved : goal.loop-number-preserved
loop-number-preserved c =
    let f = c.args.frame.now in
    let n = c.loop-number.number in
    let old = c.loop-number.extents.items in
    let sight = c.look_at-sight.result in
    let i = c.loop-number.invariant in
    let prims = c.prims_of-prims.result.now in
    let low : n < length prims = omega (arith, c.loop-number-test.true) in
    let is = whole_extent f prims n c.index-prims-number.result c.whole.result sight.extent c.prims_of-prims.ensures.prims low c.index-prims-number.is c.whole.ensures c.look_at-sight.ensures.bound c.look_at-sight.ensures.sight.extent in
    record {
      counted = ap (λ (l : List Extent). length l) c.in_ok-push.ensures.items ∙ length_pushed old sight.extent ∙ ap (λ (m : ℕ). m + 1) i.counted;
      each = subst (AreExtents f) (sym c.in_ok-push.ensures.items) (extents_more f old n sight.extent i.counted i.each is);
    }
