use Rattle.std.proofs.Common.{◌<◌, arith, length, subst, sym}
use Rattle.bound_split.specs.declared.extents.Extent.{Extent}
use Rattle.bound_split.specs.Extents.{pixels_of}
use Rattle.buckets.specs.Narrowing.{IsWholeExtent}
use Rattle.buckets.proofs.Narrowed.{misses_by}
use Rattle.buckets.proofs.candidates.can_meet.Goals as goal

pub returns : goal.returns
returns c = λ f are fails.
    let n = c.args.number in
    let e = c.index-extents-number.result in
    let low : n < length c.args.extents.now = omega (arith, c.if-number-extents.false) in
    misses_by f (pixels_of c.args.rect) n e c.meets.result (subst (λ (x : Extent). IsWholeExtent f n x) (sym c.index-extents-number.is) (are.each n e low)) c.meets.ensures fails
