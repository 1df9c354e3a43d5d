use Rattle.std.proofs.Common.{◌≡◌, ◌∙◌, ap, sym, subst, ◌<◌, get_or, Some}
use Rattle.texture.specs.declared.look.Tile.{Tile}
use Rattle.texture.specs.Around.{first_tile}
use Rattle.texture.specs.Slots.{Held, AreOf, IsBrought, slot_of, empty}
use Rattle.texture.proofs.Filled.{brought_more}
use Rattle.texture.proofs.Tables.{same_default}
use Rattle.texture.proofs.cache.mix_in.Goals as goal

pub bring-requires-clause-own : goal.bring-requires-clause-own
bring-requires-clause-own c = c.requires.own ∙ ap slot_of (sym c.tile.ensures)

pub index_mut-requires : goal.index_mut-requires
index_mut-requires c =
    let first = get_or c.args.slots.now.items c.args.place empty in
    let kept = subst (λ (k : Tile). first.tile ≡ Some k → AreOf c.args.texture.now k first.texels) (sym c.tile.ensures) c.requires.kept in
    let b = subst (λ k. IsBrought c.args.texture.now k c.args.place c.args.slots.now.items c.bring.new.slots.items) c.tile.ensures (c.bring.ensures c.args.texture.now kept) in
    let there = subst (λ n. c.args.place < n) (sym b.size) c.requires.there in
    subst (λ n. c.args.place < n) (sym c.bring.new.slots.ok.0) there

pub learn_mixed-requires-clause-texels : goal.learn_mixed-requires-clause-texels
learn_mixed-requires-clause-texels c =
    let first = get_or c.args.slots.now.items c.args.place empty in
    let kept = subst (λ (k : Tile). first.tile ≡ Some k → AreOf c.args.texture.now k first.texels) (sym c.tile.ensures) c.requires.kept in
    let b = subst (λ k. IsBrought c.args.texture.now k c.args.place c.args.slots.now.items c.bring.new.slots.items) c.tile.ensures (c.bring.ensures c.args.texture.now kept) in
    let there = subst (λ n. c.args.place < n) (sym b.size) c.requires.there in
    let here = c.index_mut.ensures.value ∙ same_default c.bring.new.slots.items c.args.place c.index_mut.result.now empty there in
    subst (λ (h : Held). AreOf c.args.texture.now (first_tile c.args.a) h.texels) (sym here) b.texels

pub returns-clause-slots : goal.returns-clause-slots
returns-clause-slots c =
    let first = get_or c.args.slots.now.items c.args.place empty in
    let kept = subst (λ (k : Tile). first.tile ≡ Some k → AreOf c.args.texture.now k first.texels) (sym c.tile.ensures) c.requires.kept in
    let b = subst (λ k. IsBrought c.args.texture.now k c.args.place c.args.slots.now.items c.bring.new.slots.items) c.tile.ensures (c.bring.ensures c.args.texture.now kept) in
    let there = subst (λ n. c.args.place < n) (sym b.size) c.requires.there in
    let here = c.index_mut.ensures.value ∙ same_default c.bring.new.slots.items c.args.place c.index_mut.result.now empty there in
    brought_more c.args.texture.now (first_tile c.args.a) c.args.place c.requires.own c.args.slots.now.items c.bring.new.slots.items c.learn_mixed.new.self there b
    (c.learn_mixed.ensures.tile ∙ ap (λ (h : Held). h.tile) here ∙ b.tile) c.learn_mixed.ensures.texels
