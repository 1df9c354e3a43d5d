use Rattle.std.proofs.Common.{◌∙◌, ap, subst, sym, get_or, ◌<◌, Some}
use Rattle.texture.specs.Around.{first_tile}
use Rattle.texture.specs.Slots.{Held, Kept, IsBrought, slot_of, no_image, empty}
use Rattle.texture.proofs.Filled.{kept_after}
use Rattle.texture.proofs.Tables.{same_default}
use Rattle.texture.proofs.cache.Cache.look_in_one.Goals as goal

pub mix_kept-requires-clause-own : goal.mix_kept-requires-clause-own
mix_kept-requires-clause-own c =
    let slots = c.self.inside.slots.items in
    let last = c.self.inside.last in
    let there = subst (λ n. last < n) (sym c.self.invariant.0.size) c.self.invariant.1 in
    let here = c.index-last.ensures ∙ same_default slots last c.index-last.result.now empty there in
    (c.self.invariant.0.each last).own (first_tile c.args.a) (ap (λ (h : Held). h.tile) (sym here) ∙ c.keeps.ensures c.if-keeps.true ∙ ap Some c.tile-tile.ensures)

pub invariant_of-self : goal.invariant_of-self
invariant_of-self c =
    let image = c.texture-texture.ensures ∙ ap (λ (k : Kept). get_or k.textures c.args.a.which no_image) (sym c.self.view_is) in
    let k = first_tile c.args.a in
    let old = c.self.inside.slots.items in
    let new = c.mix_kept.new.slots.items in
    let last = c.self.inside.last in
    let there = subst (λ n. last < n) (sym c.self.invariant.0.size) c.self.invariant.1 in
    let here = c.index-last.ensures ∙ same_default old last c.index-last.result.now empty there in
    let own = (c.self.invariant.0.each last).own k (ap (λ (h : Held). h.tile) (sym here) ∙ c.keeps.ensures c.if-keeps.true ∙ ap Some c.tile-tile.ensures) in (
      kept_after c.self.inside.textures.now old new last k c.self.invariant.0 own (subst (λ p. IsBrought p k last old new) image c.mix_kept.ensures.slots),
      c.self.invariant.1,
    )

pub invariant_of-self-2 : goal.invariant_of-self-2
invariant_of-self-2 c =
    let image = c.texture-texture.ensures ∙ ap (λ (k : Kept). get_or k.textures c.args.a.which no_image) (sym c.self.view_is) in
    let k = first_tile c.args.a in
    let old = c.self.inside.slots.items in
    let new = c.mix_in.new.slots.items in
    let place = c.slot_at-place.result in (
      kept_after c.self.inside.textures.now old new place k c.self.invariant.0 (c.slot_at-place.ensures.value ∙ ap slot_of c.tile-tile.ensures) (subst (λ p. IsBrought p k place old new) image c.mix_in.ensures.slots),
      c.slot_at-place.ensures.bound,
    )
