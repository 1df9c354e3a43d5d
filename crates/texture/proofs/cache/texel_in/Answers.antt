use Rattle.std.proofs.Common.{◌∙◌, ap, sym, subst, ◌<◌}
use Rattle.texture.specs.Slots.{Held, AreOf, empty}
use Rattle.texture.proofs.Filled.{brought_more}
use Rattle.texture.proofs.Tables.{same_default}
use Rattle.texture.proofs.cache.texel_in.Goals as goal

pub index_mut-requires : goal.index_mut-requires
index_mut-requires c = subst (λ n. c.args.place < n) (sym (c.bring.new.slots.ok.0 ∙ (c.bring.ensures c.args.texture.now c.requires.kept).size)) c.requires.there

pub texel-requires-clause-texels : goal.texel-requires-clause-texels
texel-requires-clause-texels c =
    let b = c.bring.ensures c.args.texture.now c.requires.kept in
    let there = subst (λ n. c.args.place < n) (sym b.size) c.requires.there in
    let here = c.index_mut.ensures.value ∙ same_default c.bring.new.slots.items c.args.place c.index_mut.result.now empty there in
    subst (λ (h : Held). AreOf c.args.texture.now c.args.tile h.texels) (sym here) b.texels

pub returns-clause-slots : goal.returns-clause-slots
returns-clause-slots c =
    let b = c.bring.ensures c.args.texture.now c.requires.kept in
    let there = subst (λ n. c.args.place < n) (sym b.size) c.requires.there in
    let here = c.index_mut.ensures.value ∙ same_default c.bring.new.slots.items c.args.place c.index_mut.result.now empty there in
    brought_more c.args.texture.now c.args.tile c.args.place c.requires.own c.args.slots.now.items c.bring.new.slots.items c.texel.new.self there b
    (c.texel.ensures.tile ∙ ap (λ (h : Held). h.tile) here ∙ b.tile) c.texel.ensures.texels
