use Rattle.std.proofs.Common.{◌≡◌, ◌∙◌, ◌<◌, ap, sym, subst, arith, length, get_or, List, Option}
use Rattle.scene.specs.Scene.{FrameValue}
use Rattle.buckets.specs.declared.sights.Known.{Known}
use Rattle.buckets.specs.Sights.{IsKnown}
use Rattle.buckets.proofs.sights.Sights.known_at.Goals as goal

pub bounds-as_slice-place : goal.bounds-as_slice-place
bounds-as_slice-place c =
    let room = c.self.invariant.known.room in
    let low : c.args.place < length c.self.inside.known.items = omega (arith, room, c.requires) in
    subst (λ xs. c.args.place < length xs) (sym c.as_slice.ensures.value) low

pub returns : goal.returns
returns c =
    let room = c.self.invariant.known.room in
    let items = c.self.inside.known.items in
    let low : c.args.place < length items = omega (arith, room, c.requires) in
    let kept = c.index-as_slice-place.result in
    let is : kept ≡ get_or items c.args.place kept = c.index-as_slice-place.is ∙ ap (λ (xs : List (Option Known)). get_or xs c.args.place kept) c.as_slice.ensures.value in
    subst (λ (g : FrameValue). IsKnown g kept) c.self.view_is (subst (IsKnown c.self.inside.frame.now) (sym is) (c.self.invariant.known.each c.args.place kept low))
