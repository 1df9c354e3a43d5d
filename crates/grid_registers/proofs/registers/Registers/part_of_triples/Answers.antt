use Rattle.std.proofs.Common.{ℕ, ◌<◌, length, sym, ap, ◌∙◌, subst, pos, get_or}
use Rattle.std.proofs.lemmas.List.{with_items_is}
use Rattle.std.specs.Vec.{with_items}
use Rattle.fixed_math.specs.declared.vec3.Vec3.{Vec3}
use Rattle.builtins.specs.declared.shape.Shape.TheVariants as shapes
use Rattle.builtins.specs.Formulas as formulas
use Rattle.builtins.specs.Triples.{each}
use Rattle.builtins.specs.Values.{triple_of, by_part}
use Rattle.grid_registers.specs.Operands.{operand_at}
use Rattle.grid_registers.specs.Held.{texts_of}
use Rattle.grid_registers.proofs.Parts.{as_many, holds_triples, triple_by, one_of_triple}
use Rattle.grid_registers.proofs.registers.Registers.part_of_triples.Goals as goal

pub part_row-requires : goal.part_row-requires
part_row-requires c = as_many c.triples-a.result.x c.args.self.now.frame.now.places _ c.triples-a.ensures.planes.x (ap length c.deref_mut.ensures.value ∙ c.requires.room shapes.Triple)

pub part_row-requires-2 : goal.part_row-requires-2
part_row-requires-2 c = as_many c.triples-a.result.y c.args.self.now.frame.now.places _ c.triples-a.ensures.planes.y (ap length c.deref_mut-2.ensures.value ∙ c.args.row.now.ys_long ∙ c.requires.room shapes.Triple)

pub part_row-requires-3 : goal.part_row-requires-3
part_row-requires-3 c = as_many c.triples-a.result.z c.args.self.now.frame.now.places _ c.triples-a.ensures.planes.z (ap length c.deref_mut-3.ensures.value ∙ c.args.row.now.zs_long ∙ c.requires.room shapes.Triple)

pub returns-clause-each : goal.returns-clause-each
returns-clause-each c =
    let r = c.args.self.now in
    let places = r.frame.now.places in
    let t : ℕ → Vec3 = λ i. each (formulas.part c.args.op) (triple_of (operand_at r c.args.p i)) in
    holds_triples (texts_of r) c.args.row.now.numbers.items (with_items c.args.row.now.xs c.part_row.new.out).items (with_items c.args.row.now.ys c.part_row-2.new.out).items (with_items c.args.row.now.zs c.part_row-3.new.out).items c.args.row.now.words.items places (λ i. by_part (formulas.part c.args.op) (operand_at r c.args.p i)) t (λ i l. triple_by _ (t i) (ap (λ xs. get_or xs i (pos 0)) (with_items_is c.args.row.now.xs c.part_row.new.out (c.part_row.ensures.long ∙ ap length c.deref_mut.ensures.value ∙ sym c.args.row.now.xs.ok.0)) ∙ c.part_row.ensures.each i (subst (λ n. i < n) (sym (ap length c.deref_mut.ensures.value ∙ c.requires.room shapes.Triple)) l) ∙ ap (λ z. formulas.part c.args.op z) (ap (λ v. v.x) (c.triples-a.ensures.each i l))) (ap (λ xs. get_or xs i (pos 0)) (with_items_is c.args.row.now.ys c.part_row-2.new.out (c.part_row-2.ensures.long ∙ ap length c.deref_mut-2.ensures.value ∙ sym c.args.row.now.ys.ok.0)) ∙ c.part_row-2.ensures.each i (subst (λ n. i < n) (sym (ap length c.deref_mut-2.ensures.value ∙ c.args.row.now.ys_long ∙ c.requires.room shapes.Triple)) l) ∙ ap (λ z. formulas.part c.args.op z) (ap (λ v. v.y) (c.triples-a.ensures.each i l))) (ap (λ xs. get_or xs i (pos 0)) (with_items_is c.args.row.now.zs c.part_row-3.new.out (c.part_row-3.ensures.long ∙ ap length c.deref_mut-3.ensures.value ∙ sym c.args.row.now.zs.ok.0)) ∙ c.part_row-3.ensures.each i (subst (λ n. i < n) (sym (ap length c.deref_mut-3.ensures.value ∙ c.args.row.now.zs_long ∙ c.requires.room shapes.Triple)) l) ∙ ap (λ z. formulas.part c.args.op z) (ap (λ v. v.z) (c.triples-a.ensures.each i l)))) (λ i l. one_of_triple r c.args.p c.args.p c.args.p i (formulas.part c.args.op) c.requires.others)
