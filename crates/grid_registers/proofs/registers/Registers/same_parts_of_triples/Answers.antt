use Rattle.std.proofs.Common.{◌≡◌, ℕ, ◌<◌, length, sym, ap, ◌∙◌, subst, pos, get_or}
use Rattle.std.proofs.lemmas.List.{with_items_is}
use Rattle.std.specs.Vec.{with_items}
use Rattle.fixed_math.specs.declared.vec3.Vec3.{Vec3}
use Rattle.builtins.specs.declared.shape.Shape.TheVariants as shapes
use Rattle.builtins.specs.Formulas as formulas
use Rattle.builtins.specs.Triples.{each_two}
use Rattle.builtins.specs.Values.{triple_of, by_parts}
use Rattle.number_rows.specs.Planes.{plane_at}
use Rattle.grid_registers.specs.Operands.{operand_at}
use Rattle.grid_registers.specs.Held.{texts_of}
use Rattle.grid_registers.proofs.Parts.{as_many, holds_triples, triple_by, two_of_triples}
use Rattle.grid_registers.proofs.registers.Registers.same_parts_of_triples.Goals as goal

pub parts_rows-requires-clause-a : goal.parts_rows-requires-clause-a
parts_rows-requires-clause-a c = as_many c.triples-a.result.x c.args.self.now.frame.now.places _ c.triples-a.ensures.planes.x (ap length c.deref_mut.ensures.value ∙ c.requires.room shapes.Triple)

pub parts_rows-requires-clause-b : goal.parts_rows-requires-clause-b
parts_rows-requires-clause-b c = as_many c.triples-b.result.x c.args.self.now.frame.now.places _ c.triples-b.ensures.planes.x (ap length c.deref_mut.ensures.value ∙ c.requires.room shapes.Triple)

pub returns-clause-each : goal.returns-clause-each
returns-clause-each c =
    let r = c.args.self.now in
    let row = c.args.row.now in
    let places = r.frame.now.places in
    let f = formulas.parts c.args.op in
    let tp : ℕ → Vec3 = λ i. triple_of (operand_at r c.args.p i) in
    let tq : ℕ → Vec3 = λ i. triple_of (operand_at r c.args.q i) in
    let t : ℕ → Vec3 = λ i. each_two f (tp i) (tq i) in
    let lx = ap length c.deref_mut.ensures.value in
    let ly = ap length c.deref_mut-2.ensures.value in
    let lz = ap length c.deref_mut-3.ensures.value in
    let xs = (with_items row.xs c.parts_rows.new.out).items in
    let x : (i : ℕ) → i < places → get_or xs i (pos 0) ≡ f (tp i).x (tq i).x = λ i l.
    ap (λ k. get_or k i (pos 0)) (with_items_is row.xs c.parts_rows.new.out (c.parts_rows.ensures.long ∙ lx ∙ sym row.xs.ok.0)) ∙ c.parts_rows.ensures.each i (subst (λ n. i < n) (sym (lx ∙ c.requires.room shapes.Triple)) l)
    ∙ ap (λ z. f z (plane_at c.triples-b.result.x i)) (ap (λ v. v.x) (c.triples-a.ensures.each i l)) ∙ ap (λ z. f (tp i).x z) (ap (λ v. v.x) (c.triples-b.ensures.each i l)) in
    let y : (i : ℕ) → i < places → get_or (with_items row.ys c.copy.new.out).items i (pos 0) ≡ f (tp i).y (tq i).y = λ i l.
    ap (λ k. get_or k i (pos 0)) (with_items_is row.ys c.copy.new.out (c.copy.ensures.long ∙ ly ∙ sym row.ys.ok.0)) ∙ c.copy.ensures.each i (subst (λ n. i < n) (sym (ly ∙ row.ys_long ∙ c.requires.room shapes.Triple)) l)
    ∙ ap (λ k. get_or k i (pos 0)) c.deref.ensures.value ∙ x i l ∙ ap (λ z. f z (tq i).x) (sym (c.requires.same_p i).0) ∙ ap (λ z. f (tp i).y z) (sym (c.requires.same_q i).0) in
    let z : (i : ℕ) → i < places → get_or (with_items row.zs c.copy-2.new.out).items i (pos 0) ≡ f (tp i).z (tq i).z = λ i l.
    ap (λ k. get_or k i (pos 0)) (with_items_is row.zs c.copy-2.new.out (c.copy-2.ensures.long ∙ lz ∙ sym row.zs.ok.0)) ∙ c.copy-2.ensures.each i (subst (λ n. i < n) (sym (lz ∙ row.zs_long ∙ c.requires.room shapes.Triple)) l)
    ∙ ap (λ k. get_or k i (pos 0)) c.deref-2.ensures.value ∙ x i l ∙ ap (λ z. f z (tq i).x) (sym (c.requires.same_p i).1) ∙ ap (λ z. f (tp i).z z) (sym (c.requires.same_q i).1) in
    holds_triples (texts_of r) row.numbers.items xs (with_items row.ys c.copy.new.out).items (with_items row.zs c.copy-2.new.out).items row.words.items places (λ i. by_parts f (operand_at r c.args.p i) (operand_at r c.args.q i)) t (λ i l. triple_by _ (t i) (x i l) (y i l) (z i l)) (λ i l. two_of_triples r c.args.p c.args.q c.args.p i f c.requires.others)
