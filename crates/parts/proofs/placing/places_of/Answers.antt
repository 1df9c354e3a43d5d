use Rattle.std.proofs.Common.{arith, ◌<◌, ◌∙◌, ap, sym, refl, subst, None}
use Rattle.std.proofs.lemmas.List.{get_or_read}
use Rattle.std.specs.Option.{is_some}
use Rattle.parts.specs.Formats.{Bucket}
use Rattle.parts.specs.Placing.{Placed, not_placed}
use Rattle.parts.proofs.Places.{placed_more, placed_all, again_is, nothing}
use Rattle.parts.proofs.placing.places_of.Goals as goal

pub returns-then-is_some : goal.returns-then-is_some
returns-then-is_some c =
    let m = c.loop-m.m in
    let l = c.loop-m-test.true in
    let r = get_or_read c.args.all.now m c.index-all-m.result l c.index-all-m.is not_placed in
    let q = get_or_read c.args.all.now m c.index-all-m-then-is_some.result l c.index-all-m-then-is_some.is not_placed in
    let number = ap (λ (x : Placed). x.bucket.number) (sym r) ∙ sym (ap (λ (b : Bucket). b.number) c.bucket.ensures) ∙ sym c.number-number.ensures in
    let below = subst (λ n. n < c.args.total) number (c.requires.numbers m l) in
    let count = c.loop-m.invariant.count in
    let place = get_or_read c.loop-m.places.items c.number-number.result c.index.result.now (omega (arith, below, count)) c.index.ensures None in (
      m,
      again_is c.args.all.now c.args.total m c.number-number.result c.loop-m.places.items c.loop-m.invariant l number (sym (ap is_some place) ∙ sym c.is_some.ensures ∙ c.if-is_some.true),
      ap (λ (x : Placed). x.part) (sym q) ∙ sym c.part.ensures,
      number,
    )

pub loop-m-preserved : goal.loop-m-preserved
loop-m-preserved c =
    let m = c.loop-m.m in
    let l = c.loop-m-test.true in
    let r = get_or_read c.args.all.now m c.index-all-m.result l c.index-all-m.is not_placed in
    let number = ap (λ (x : Placed). x.bucket.number) (sym r) ∙ sym (ap (λ (b : Bucket). b.number) c.bucket.ensures) ∙ sym c.number-number.ensures in
    let below = subst (λ n. n < c.args.total) number (c.requires.numbers m l) in
    let count = c.loop-m.invariant.count in
    let place = get_or_read c.loop-m.places.items c.number-number.result c.index.result.now (omega (arith, below, count)) c.index.ensures None in
    placed_more c.args.all.now c.args.total m c.number-number.result c.loop-m.places.items _ c.loop-m.invariant number below (nothing _ (sym (ap is_some place) ∙ sym c.is_some.ensures ∙ c.if-is_some.false)) refl

pub returns : goal.returns
returns c = placed_all c.args.all.now c.args.total c.loop-m.m c.loop-m.places.items c.loop-m.invariant (omega arith)
