use Rattle.std.proofs.Common.{◌<◌, pos, length, get_or, refl, sym, ap, ◌∙◌, subst}
use Rattle.std.proofs.lemmas.List.{with_items_is}
use Rattle.std.specs.Vec.{with_items}
use Rattle.number_rows.specs.Planes.{triple_in, triple_at}
use Rattle.builtins.specs.declared.shape.Shape.TheVariants as shapes
use Rattle.builtins.specs.Values.{triple_of}
use Rattle.sl_ast.specs.declared.typed.Value.TheVariants as values
use Rattle.grid_registers.specs.Operands.{operand_at}
use Rattle.grid_registers.specs.Held.{texts_of}
use Rattle.grid_registers.proofs.Parts.{all_many, holds_triples, triple_by}
use Rattle.grid_registers.proofs.registers.Registers.triple_of_three.Goals as goal

pub triple_of_three-requires-clause-a : goal.triple_of_three-requires-clause-a
triple_of_three-requires-clause-a g c = all_many c.triples-a.result c.args.self.now.frame.now.places _ c.triples-a.ensures.planes (ap length c.deref_mut.ensures.value ∙ c.requires.room shapes.Triple)

pub triple_of_three-requires-clause-b : goal.triple_of_three-requires-clause-b
triple_of_three-requires-clause-b g c = all_many c.triples-b.result c.args.self.now.frame.now.places _ c.triples-b.ensures.planes (ap length c.deref_mut.ensures.value ∙ c.requires.room shapes.Triple)

pub triple_of_three-requires-clause-c : goal.triple_of_three-requires-clause-c
triple_of_three-requires-clause-c g c = all_many c.triples-c.result c.args.self.now.frame.now.places _ c.triples-c.ensures.planes (ap length c.deref_mut.ensures.value ∙ c.requires.room shapes.Triple)

pub returns-clause-each : goal.returns-clause-each
returns-clause-each g c =
    let r = c.args.self.now in
    let f = g.K.ToTripleOfThree.formula in
    let row = c.args.row.now in
    let t = c.triple_of_three in
    let ex = with_items_is row.xs t.new.x (t.ensures.long.0 ∙ ap length c.deref_mut.ensures.value ∙ sym row.xs.ok.0) in
    let ey = with_items_is row.ys t.new.y (t.ensures.long.1.0 ∙ ap length c.deref_mut-2.ensures.value ∙ sym row.ys.ok.0) in
    let ez = with_items_is row.zs t.new.z (t.ensures.long.1.1 ∙ ap length c.deref_mut-3.ensures.value ∙ sym row.zs.ok.0) in
    holds_triples (texts_of r) row.numbers.items (with_items row.xs t.new.x).items (with_items row.ys t.new.y).items (with_items row.zs t.new.z).items row.words.items r.frame.now.places (λ i. values.Triple (f (triple_of (operand_at r c.args.p i)) (triple_of (operand_at r c.args.q i)) (triple_of (operand_at r c.args.t i)))) (λ i. f (triple_of (operand_at r c.args.p i)) (triple_of (operand_at r c.args.q i)) (triple_of (operand_at r c.args.t i)))
    (λ i l.
    triple_by _ (triple_in t.new.x t.new.y t.new.z i) (ap (λ xs. get_or xs i (pos 0)) ex) (ap (λ xs. get_or xs i (pos 0)) ey) (ap (λ xs. get_or xs i (pos 0)) ez)
    ∙ t.ensures.each i (subst (λ n. i < n) (sym (ap length c.deref_mut.ensures.value ∙ c.requires.room shapes.Triple)) l) ∙ ap (λ z. f z (triple_at c.triples-b.result i) (triple_at c.triples-c.result i)) (c.triples-a.ensures.each i l) ∙ ap (λ z. f (triple_of (operand_at r c.args.p i)) z (triple_at c.triples-c.result i)) (c.triples-b.ensures.each i l) ∙ ap (λ z. f (triple_of (operand_at r c.args.p i)) (triple_of (operand_at r c.args.q i)) z) (c.triples-c.ensures.each i l)) (λ i l. refl)
