use Rattle.std.proofs.Common.{ℕ, ◌<◌, length, sym, ap, ◌∙◌, subst, pos, get_or}
use Rattle.std.proofs.lemmas.List.{with_items_is}
use Rattle.std.specs.Vec.{with_items}
use Rattle.fixed_math.specs.declared.vec3.Vec3.{Vec3}
use Rattle.builtins.specs.declared.shape.Shape.TheVariants as shapes
use Rattle.number_rows.specs.Truths as truths
use Rattle.builtins.specs.Values.{number_of, triple_of, chosen, is_true}
use Rattle.number_rows.specs.Planes.{plane_at}
use Rattle.grid_registers.specs.Operands.{operand_at}
use Rattle.grid_registers.specs.Held.{texts_of}
use Rattle.grid_registers.proofs.Parts.{as_many, holds_triples, triple_by, choice_of_triples}
use Rattle.grid_registers.proofs.registers.Registers.chosen_triples.Goals as goal

pub three_planes-requires-clause-a : goal.three_planes-requires-clause-a
three_planes-requires-clause-a c = as_many c.numbers-a.result c.args.self.now.frame.now.places _ c.numbers-a.ensures.plane (ap length c.deref_mut.ensures.value ∙ c.requires.room shapes.Triple)

pub three_planes-requires-clause-b : goal.three_planes-requires-clause-b
three_planes-requires-clause-b c = as_many c.triples-b.result.x c.args.self.now.frame.now.places _ c.triples-b.ensures.planes.x (ap length c.deref_mut.ensures.value ∙ c.requires.room shapes.Triple)

pub three_planes-requires-clause-c : goal.three_planes-requires-clause-c
three_planes-requires-clause-c c = as_many c.triples-c.result.x c.args.self.now.frame.now.places _ c.triples-c.ensures.planes.x (ap length c.deref_mut.ensures.value ∙ c.requires.room shapes.Triple)

pub three_planes-requires-2-clause-a : goal.three_planes-requires-2-clause-a
three_planes-requires-2-clause-a c = as_many c.numbers-a.result c.args.self.now.frame.now.places _ c.numbers-a.ensures.plane (ap length c.deref_mut-2.ensures.value ∙ c.args.row.now.ys_long ∙ c.requires.room shapes.Triple)

pub three_planes-requires-2-clause-b : goal.three_planes-requires-2-clause-b
three_planes-requires-2-clause-b c = as_many c.triples-b.result.y c.args.self.now.frame.now.places _ c.triples-b.ensures.planes.y (ap length c.deref_mut-2.ensures.value ∙ c.args.row.now.ys_long ∙ c.requires.room shapes.Triple)

pub three_planes-requires-2-clause-c : goal.three_planes-requires-2-clause-c
three_planes-requires-2-clause-c c = as_many c.triples-c.result.y c.args.self.now.frame.now.places _ c.triples-c.ensures.planes.y (ap length c.deref_mut-2.ensures.value ∙ c.args.row.now.ys_long ∙ c.requires.room shapes.Triple)

pub three_planes-requires-3-clause-a : goal.three_planes-requires-3-clause-a
three_planes-requires-3-clause-a c = as_many c.numbers-a.result c.args.self.now.frame.now.places _ c.numbers-a.ensures.plane (ap length c.deref_mut-3.ensures.value ∙ c.args.row.now.zs_long ∙ c.requires.room shapes.Triple)

pub three_planes-requires-3-clause-b : goal.three_planes-requires-3-clause-b
three_planes-requires-3-clause-b c = as_many c.triples-b.result.z c.args.self.now.frame.now.places _ c.triples-b.ensures.planes.z (ap length c.deref_mut-3.ensures.value ∙ c.args.row.now.zs_long ∙ c.requires.room shapes.Triple)

pub three_planes-requires-3-clause-c : goal.three_planes-requires-3-clause-c
three_planes-requires-3-clause-c c = as_many c.triples-c.result.z c.args.self.now.frame.now.places _ c.triples-c.ensures.planes.z (ap length c.deref_mut-3.ensures.value ∙ c.args.row.now.zs_long ∙ c.requires.room shapes.Triple)

pub returns-clause-each : goal.returns-clause-each
returns-clause-each c =
    let r = c.args.self.now in
    let places = r.frame.now.places in
    let t : ℕ → Vec3 = λ i. record { x = truths.chosen (number_of (operand_at r c.args.p i)) (triple_of (operand_at r c.args.q i)).x (triple_of (operand_at r c.args.t i)).x; y = truths.chosen (number_of (operand_at r c.args.p i)) (triple_of (operand_at r c.args.q i)).y (triple_of (operand_at r c.args.t i)).y; z = truths.chosen (number_of (operand_at r c.args.p i)) (triple_of (operand_at r c.args.q i)).z (triple_of (operand_at r c.args.t i)).z } in
    holds_triples (texts_of r) c.args.row.now.numbers.items (with_items c.args.row.now.xs c.three_planes.new.out).items (with_items c.args.row.now.ys c.three_planes-2.new.out).items (with_items c.args.row.now.zs c.three_planes-3.new.out).items c.args.row.now.words.items places (λ i. chosen (is_true (operand_at r c.args.p i)) (operand_at r c.args.q i) (operand_at r c.args.t i)) t (λ i l. triple_by _ (t i) (ap (λ xs. get_or xs i (pos 0)) (with_items_is c.args.row.now.xs c.three_planes.new.out (c.three_planes.ensures.long ∙ ap length c.deref_mut.ensures.value ∙ sym c.args.row.now.xs.ok.0)) ∙ c.three_planes.ensures.each i (subst (λ n. i < n) (sym (ap length c.deref_mut.ensures.value ∙ c.requires.room shapes.Triple)) l) ∙ ap (λ z. truths.chosen z (plane_at c.triples-b.result.x i) (plane_at c.triples-c.result.x i)) (c.numbers-a.ensures.each i l) ∙ ap (λ z. truths.chosen (number_of (operand_at r c.args.p i)) z (plane_at c.triples-c.result.x i)) (ap (λ v. v.x) (c.triples-b.ensures.each i l)) ∙ ap (λ z. truths.chosen (number_of (operand_at r c.args.p i)) ((triple_of (operand_at r c.args.q i)).x) z) (ap (λ v. v.x) (c.triples-c.ensures.each i l))) (ap (λ xs. get_or xs i (pos 0)) (with_items_is c.args.row.now.ys c.three_planes-2.new.out (c.three_planes-2.ensures.long ∙ ap length c.deref_mut-2.ensures.value ∙ sym c.args.row.now.ys.ok.0)) ∙ c.three_planes-2.ensures.each i (subst (λ n. i < n) (sym (ap length c.deref_mut-2.ensures.value ∙ c.args.row.now.ys_long ∙ c.requires.room shapes.Triple)) l) ∙ ap (λ z. truths.chosen z (plane_at c.triples-b.result.y i) (plane_at c.triples-c.result.y i)) (c.numbers-a.ensures.each i l) ∙ ap (λ z. truths.chosen (number_of (operand_at r c.args.p i)) z (plane_at c.triples-c.result.y i)) (ap (λ v. v.y) (c.triples-b.ensures.each i l)) ∙ ap (λ z. truths.chosen (number_of (operand_at r c.args.p i)) ((triple_of (operand_at r c.args.q i)).y) z) (ap (λ v. v.y) (c.triples-c.ensures.each i l))) (ap (λ xs. get_or xs i (pos 0)) (with_items_is c.args.row.now.zs c.three_planes-3.new.out (c.three_planes-3.ensures.long ∙ ap length c.deref_mut-3.ensures.value ∙ sym c.args.row.now.zs.ok.0)) ∙ c.three_planes-3.ensures.each i (subst (λ n. i < n) (sym (ap length c.deref_mut-3.ensures.value ∙ c.args.row.now.zs_long ∙ c.requires.room shapes.Triple)) l) ∙ ap (λ z. truths.chosen z (plane_at c.triples-b.result.z i) (plane_at c.triples-c.result.z i)) (c.numbers-a.ensures.each i l) ∙ ap (λ z. truths.chosen (number_of (operand_at r c.args.p i)) z (plane_at c.triples-c.result.z i)) (ap (λ v. v.z) (c.triples-b.ensures.each i l)) ∙ ap (λ z. truths.chosen (number_of (operand_at r c.args.p i)) ((triple_of (operand_at r c.args.q i)).z) z) (ap (λ v. v.z) (c.triples-c.ensures.each i l)))) (λ i l. choice_of_triples r c.args.q c.args.t i (is_true (operand_at r c.args.p i)) c.requires.triple)
