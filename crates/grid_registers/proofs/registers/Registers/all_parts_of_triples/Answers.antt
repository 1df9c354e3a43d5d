use Rattle.std.proofs.Common.{ℕ, ◌<◌, length, sym, ap, ◌∙◌, subst, pos, get_or}
use Rattle.std.proofs.lemmas.List.{with_items_is}
use Rattle.std.specs.Vec.{with_items}
use Rattle.fixed_math.specs.declared.vec3.Vec3.{Vec3}
use Rattle.builtins.specs.declared.shape.Shape.TheVariants as shapes
use Rattle.builtins.specs.Formulas as formulas
use Rattle.builtins.specs.Triples.{each_two}
use Rattle.builtins.specs.Values.{triple_of, by_parts}
use Rattle.number_rows.specs.Planes.{plane_at}
use Rattle.grid_registers.specs.Operands.{operand_at}
use Rattle.grid_registers.specs.Held.{texts_of}
use Rattle.grid_registers.proofs.Parts.{as_many, holds_triples, triple_by, two_of_triples}
use Rattle.grid_registers.proofs.registers.Registers.all_parts_of_triples.Goals as goal

pub parts_rows-requires-clause-a : goal.parts_rows-requires-clause-a
parts_rows-requires-clause-a c = as_many c.triples-a.result.x c.args.self.now.frame.now.places _ c.triples-a.ensures.planes.x (ap length c.deref_mut.ensures.value ∙ c.requires.room shapes.Triple)

pub parts_rows-requires-clause-b : goal.parts_rows-requires-clause-b
parts_rows-requires-clause-b c = as_many c.triples-b.result.x c.args.self.now.frame.now.places _ c.triples-b.ensures.planes.x (ap length c.deref_mut.ensures.value ∙ c.requires.room shapes.Triple)

pub parts_rows-requires-2-clause-a : goal.parts_rows-requires-2-clause-a
parts_rows-requires-2-clause-a c = as_many c.triples-a.result.y c.args.self.now.frame.now.places _ c.triples-a.ensures.planes.y (ap length c.deref_mut-2.ensures.value ∙ c.args.row.now.ys_long ∙ c.requires.room shapes.Triple)

pub parts_rows-requires-2-clause-b : goal.parts_rows-requires-2-clause-b
parts_rows-requires-2-clause-b c = as_many c.triples-b.result.y c.args.self.now.frame.now.places _ c.triples-b.ensures.planes.y (ap length c.deref_mut-2.ensures.value ∙ c.args.row.now.ys_long ∙ c.requires.room shapes.Triple)

pub parts_rows-requires-3-clause-a : goal.parts_rows-requires-3-clause-a
parts_rows-requires-3-clause-a c = as_many c.triples-a.result.z c.args.self.now.frame.now.places _ c.triples-a.ensures.planes.z (ap length c.deref_mut-3.ensures.value ∙ c.args.row.now.zs_long ∙ c.requires.room shapes.Triple)

pub parts_rows-requires-3-clause-b : goal.parts_rows-requires-3-clause-b
parts_rows-requires-3-clause-b c = as_many c.triples-b.result.z c.args.self.now.frame.now.places _ c.triples-b.ensures.planes.z (ap length c.deref_mut-3.ensures.value ∙ c.args.row.now.zs_long ∙ c.requires.room shapes.Triple)

pub returns-clause-each : goal.returns-clause-each
returns-clause-each c =
    let r = c.args.self.now in
    let places = r.frame.now.places in
    let t : ℕ → Vec3 = λ i. each_two (formulas.parts c.args.op) (triple_of (operand_at r c.args.p i)) (triple_of (operand_at r c.args.q i)) in
    holds_triples (texts_of r) c.args.row.now.numbers.items (with_items c.args.row.now.xs c.parts_rows.new.out).items (with_items c.args.row.now.ys c.parts_rows-2.new.out).items (with_items c.args.row.now.zs c.parts_rows-3.new.out).items c.args.row.now.words.items places (λ i. by_parts (formulas.parts c.args.op) (operand_at r c.args.p i) (operand_at r c.args.q i)) t (λ i l. triple_by _ (t i) (ap (λ xs. get_or xs i (pos 0)) (with_items_is c.args.row.now.xs c.parts_rows.new.out (c.parts_rows.ensures.long ∙ ap length c.deref_mut.ensures.value ∙ sym c.args.row.now.xs.ok.0)) ∙ c.parts_rows.ensures.each i (subst (λ n. i < n) (sym (ap length c.deref_mut.ensures.value ∙ c.requires.room shapes.Triple)) l) ∙ ap (λ z. formulas.parts c.args.op z (plane_at c.triples-b.result.x i)) (ap (λ v. v.x) (c.triples-a.ensures.each i l)) ∙ ap (λ z. formulas.parts c.args.op ((triple_of (operand_at r c.args.p i)).x) z) (ap (λ v. v.x) (c.triples-b.ensures.each i l))) (ap (λ xs. get_or xs i (pos 0)) (with_items_is c.args.row.now.ys c.parts_rows-2.new.out (c.parts_rows-2.ensures.long ∙ ap length c.deref_mut-2.ensures.value ∙ sym c.args.row.now.ys.ok.0)) ∙ c.parts_rows-2.ensures.each i (subst (λ n. i < n) (sym (ap length c.deref_mut-2.ensures.value ∙ c.args.row.now.ys_long ∙ c.requires.room shapes.Triple)) l) ∙ ap (λ z. formulas.parts c.args.op z (plane_at c.triples-b.result.y i)) (ap (λ v. v.y) (c.triples-a.ensures.each i l)) ∙ ap (λ z. formulas.parts c.args.op ((triple_of (operand_at r c.args.p i)).y) z) (ap (λ v. v.y) (c.triples-b.ensures.each i l))) (ap (λ xs. get_or xs i (pos 0)) (with_items_is c.args.row.now.zs c.parts_rows-3.new.out (c.parts_rows-3.ensures.long ∙ ap length c.deref_mut-3.ensures.value ∙ sym c.args.row.now.zs.ok.0)) ∙ c.parts_rows-3.ensures.each i (subst (λ n. i < n) (sym (ap length c.deref_mut-3.ensures.value ∙ c.args.row.now.zs_long ∙ c.requires.room shapes.Triple)) l) ∙ ap (λ z. formulas.parts c.args.op z (plane_at c.triples-b.result.z i)) (ap (λ v. v.z) (c.triples-a.ensures.each i l)) ∙ ap (λ z. formulas.parts c.args.op ((triple_of (operand_at r c.args.p i)).z) z) (ap (λ v. v.z) (c.triples-b.ensures.each i l)))) (λ i l. two_of_triples r c.args.p c.args.q c.args.p i (formulas.parts c.args.op) c.requires.others)
