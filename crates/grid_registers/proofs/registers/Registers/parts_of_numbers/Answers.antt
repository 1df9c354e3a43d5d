use Rattle.std.proofs.Common.{◌<◌, length, sym, ap, ◌∙◌, subst, pos, get_or}
use Rattle.std.proofs.lemmas.List.{with_items_is}
use Rattle.std.specs.Vec.{with_items}
use Rattle.builtins.specs.declared.shape.Shape.TheVariants as shapes
use Rattle.builtins.specs.Formulas as formulas
use Rattle.builtins.specs.Values.{number_of, by_parts}
use Rattle.number_rows.specs.Planes.{plane_at}
use Rattle.grid_registers.specs.Operands.{operand_at}
use Rattle.grid_registers.specs.Held.{texts_of}
use Rattle.grid_registers.proofs.Parts.{as_many, holds_numbers, two_of_numbers}
use Rattle.grid_registers.proofs.registers.Registers.parts_of_numbers.Goals as goal

pub parts_rows-requires-clause-a : goal.parts_rows-requires-clause-a
parts_rows-requires-clause-a c = as_many c.numbers.result c.args.self.now.frame.now.places _ c.numbers.ensures.plane (ap length c.deref_mut.ensures.value ∙ c.requires.room shapes.Number)

pub parts_rows-requires-clause-b : goal.parts_rows-requires-clause-b
parts_rows-requires-clause-b c = as_many c.numbers-2.result c.args.self.now.frame.now.places _ c.numbers-2.ensures.plane (ap length c.deref_mut.ensures.value ∙ c.requires.room shapes.Number)

pub returns-clause-each : goal.returns-clause-each
returns-clause-each c =
    let r = c.args.self.now in
    let places = r.frame.now.places in
    holds_numbers (texts_of r) (with_items c.args.row.now.numbers c.parts_rows.new.out).items c.args.row.now.xs.items c.args.row.now.ys.items c.args.row.now.zs.items c.args.row.now.words.items places (λ i. by_parts (formulas.parts c.args.op) (operand_at r c.args.p i) (operand_at r c.args.q i)) (λ i. formulas.parts c.args.op (number_of (operand_at r c.args.p i)) (number_of (operand_at r c.args.q i))) (λ i l. ap (λ xs. get_or xs i (pos 0)) (with_items_is c.args.row.now.numbers c.parts_rows.new.out (c.parts_rows.ensures.long ∙ ap length c.deref_mut.ensures.value ∙ sym c.args.row.now.numbers.ok.0)) ∙ c.parts_rows.ensures.each i (subst (λ n. i < n) (sym (ap length c.deref_mut.ensures.value ∙ c.requires.room shapes.Number)) l) ∙ ap (λ z. formulas.parts c.args.op z (plane_at c.numbers-2.result i)) (c.numbers.ensures.each i l) ∙ ap (λ z. formulas.parts c.args.op (number_of (operand_at r c.args.p i)) z) (c.numbers-2.ensures.each i l)) (λ i l. two_of_numbers r c.args.p c.args.q c.args.p i (formulas.parts c.args.op) c.requires.numbers)
