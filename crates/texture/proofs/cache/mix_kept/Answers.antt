use Rattle.std.proofs.Common.{◌∙◌, ap, sym, subst}
use Rattle.texture.specs.Around.{first_tile}
use Rattle.texture.specs.Slots.{Held, AreOf, empty}
use Rattle.texture.proofs.Filled.{brought_kept, brought_more}
use Rattle.texture.proofs.Tables.{same_default}
use Rattle.texture.proofs.cache.mix_kept.Goals as goal

pub mixed-requires-clause-texels : goal.mixed-requires-clause-texels
mixed-requires-clause-texels c =
    let here = c.index_mut.ensures.value ∙ same_default c.args.slots.now.items c.args.place c.index_mut.result.now empty c.requires.there in
    subst (λ (h : Held). AreOf c.args.texture.now (first_tile c.args.a) h.texels) (sym here) c.requires.kept

pub returns-clause-slots : goal.returns-clause-slots
returns-clause-slots c =
    let p = c.args.texture.now in
    let k = first_tile c.args.a in
    let hs = c.args.slots.now.items in
    let place = c.args.place in
    let here = c.index_mut.ensures.value ∙ same_default hs place c.index_mut.result.now empty c.requires.there in
    brought_more p k place c.requires.own hs hs c.mixed.new.self c.requires.there (brought_kept p k place c.requires.own hs c.requires.there c.requires.tile c.requires.kept)
    (c.mixed.ensures.tile ∙ ap (λ (h : Held). h.tile) here ∙ c.requires.tile) c.mixed.ensures.texels
