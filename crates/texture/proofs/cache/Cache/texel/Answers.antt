use Rattle.std.proofs.Common.{◌∙◌, ap, refl, sym, subst, ◌<◌, ◌^◌, get_or}
use Rattle.texture.specs.Images.{Image}
use Rattle.texture.specs.Pyramid.{side_at}
use Rattle.texture.specs.Slots.{Kept, AreOf, IsBrought, put, no_image, empty, tile_at}
use Rattle.texture.proofs.Filled.{kept_after}
use Rattle.texture.proofs.cache.Cache.texel.Goals as goal

pub texel_in-requires-clause-kept : goal.texel_in-requires-clause-kept
texel_in-requires-clause-kept c t =
    let image = c.texture-texture.ensures ∙ ap (λ (k : Kept). get_or k.textures c.args.which no_image) (sym c.self.view_is) in
    let place = c.slot_at-place.result in
    let k = tile_at c.args.which c.args.l c.args.x c.args.y in
    subst (λ p. AreOf p k (get_or c.self.inside.slots.items place empty).texels) (sym image) ((c.self.invariant.0.each place).texels k t)

pub texel_in-requires-clause-inside : goal.texel_in-requires-clause-inside
texel_in-requires-clause-inside c = record {
  column = subst (λ (p : Image). c.args.x < side_at p.width (2 ^ c.args.l)) (sym c.texture-texture.ensures) c.requires.column;
  row = subst (λ (p : Image). c.args.y < side_at p.height (2 ^ c.args.l)) (sym c.texture-texture.ensures) c.requires.row;
  column_most = c.requires.left;
  row_most = c.requires.up;
  across = refl;
  up = refl;
}

pub invariant_of-self : goal.invariant_of-self
invariant_of-self c =
    let image = c.texture-texture.ensures ∙ ap (λ (k : Kept). get_or k.textures c.args.which no_image) (sym c.self.view_is) in
    let k = tile_at c.args.which c.args.l c.args.x c.args.y in
    let old = c.self.inside.slots.items in
    let new = c.texel_in.new.slots.items in
    let place = c.slot_at-place.result in (
      kept_after c.self.inside.textures.now old new place k c.self.invariant.0 c.slot_at-place.ensures.value (subst (λ p. IsBrought p k place old new) image c.texel_in.ensures.slots),
      c.self.invariant.1,
    )

pub returns-clause-slots : goal.returns-clause-slots
returns-clause-slots c = c.texel_in.ensures.slots.keys ∙ ap (λ (k : Kept). put k.slots (tile_at c.args.which c.args.l c.args.x c.args.y)) c.self.view_is
