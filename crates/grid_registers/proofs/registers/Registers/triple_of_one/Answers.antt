use Rattle.std.proofs.Common.{◌<◌, pos, length, get_or, refl, sym, ap, ◌∙◌, subst}
use Rattle.std.proofs.lemmas.List.{with_items_is}
use Rattle.std.specs.Vec.{with_items}
use Rattle.number_rows.specs.Planes.{triple_in}
use Rattle.builtins.specs.declared.shape.Shape.TheVariants as shapes
use Rattle.builtins.specs.Values.{triple_of}
use Rattle.sl_ast.specs.declared.typed.Value.TheVariants as values
use Rattle.grid_registers.specs.Operands.{operand_at}
use Rattle.grid_registers.specs.Held.{texts_of}
use Rattle.grid_registers.proofs.Parts.{all_many, holds_triples, triple_by}
use Rattle.grid_registers.proofs.registers.Registers.triple_of_one.Goals as goal

pub triple_of_triple-requires-clause-a : goal.triple_of_triple-requires-clause-a
triple_of_triple-requires-clause-a g c = all_many c.triples.result c.args.self.now.frame.now.places _ c.triples.ensures.planes (ap length c.deref_mut.ensures.value ∙ c.requires.room shapes.Triple)

pub returns-clause-each : goal.returns-clause-each
returns-clause-each g c =
    let r = c.args.self.now in
    let x = c.args.row.now.xs in
    let y = c.args.row.now.ys in
    let z = c.args.row.now.zs in
    let t = c.triple_of_triple in
    let ex = with_items_is x t.new.x (t.ensures.long.0 ∙ ap length c.deref_mut.ensures.value ∙ sym x.ok.0) in
    let ey = with_items_is y t.new.y (t.ensures.long.1.0 ∙ ap length c.deref_mut-2.ensures.value ∙ sym y.ok.0) in
    let ez = with_items_is z t.new.z (t.ensures.long.1.1 ∙ ap length c.deref_mut-3.ensures.value ∙ sym z.ok.0) in
    holds_triples (texts_of r) c.args.row.now.numbers.items (with_items x t.new.x).items (with_items y t.new.y).items (with_items z t.new.z).items c.args.row.now.words.items r.frame.now.places (λ i. values.Triple (g.K.ToTriple.formula (triple_of (operand_at r c.args.p i)))) (λ i. g.K.ToTriple.formula (triple_of (operand_at r c.args.p i)))
    (λ i l.
    triple_by _ (triple_in t.new.x t.new.y t.new.z i) (ap (λ xs. get_or xs i (pos 0)) ex) (ap (λ xs. get_or xs i (pos 0)) ey) (ap (λ xs. get_or xs i (pos 0)) ez)
    ∙ t.ensures.each i (subst (λ n. i < n) (sym (ap length c.deref_mut.ensures.value ∙ c.requires.room shapes.Triple)) l) ∙ ap g.K.ToTriple.formula (c.triples.ensures.each i l)) (λ i l. refl)
