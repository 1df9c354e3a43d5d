use Rattle.std.proofs.Common.{◌<◌, length, sym, ap, ◌∙◌, subst, pos, get_or}
use Rattle.std.proofs.lemmas.List.{with_items_is}
use Rattle.std.specs.Vec.{with_items}
use Rattle.builtins.specs.declared.shape.Shape.TheVariants as shapes
use Rattle.number_rows.specs.Truths as truths
use Rattle.builtins.specs.Values.{number_of, chosen, is_true}
use Rattle.number_rows.specs.Planes.{plane_at}
use Rattle.grid_registers.specs.Operands.{operand_at}
use Rattle.grid_registers.specs.Held.{texts_of}
use Rattle.grid_registers.proofs.Parts.{as_many, holds_numbers, choice_of_numbers}
use Rattle.grid_registers.proofs.registers.Registers.chosen_numbers.Goals as goal

pub three_planes-requires-clause-a : goal.three_planes-requires-clause-a
three_planes-requires-clause-a c = as_many c.numbers-a.result c.args.self.now.frame.now.places _ c.numbers-a.ensures.plane (ap length c.deref_mut.ensures.value ∙ c.requires.room shapes.Number)

pub three_planes-requires-clause-b : goal.three_planes-requires-clause-b
three_planes-requires-clause-b c = as_many c.numbers-b.result c.args.self.now.frame.now.places _ c.numbers-b.ensures.plane (ap length c.deref_mut.ensures.value ∙ c.requires.room shapes.Number)

pub three_planes-requires-clause-c : goal.three_planes-requires-clause-c
three_planes-requires-clause-c c = as_many c.numbers-c.result c.args.self.now.frame.now.places _ c.numbers-c.ensures.plane (ap length c.deref_mut.ensures.value ∙ c.requires.room shapes.Number)

pub returns-clause-each : goal.returns-clause-each
returns-clause-each c =
    let r = c.args.self.now in
    let places = r.frame.now.places in
    holds_numbers (texts_of r) (with_items c.args.row.now.numbers c.three_planes.new.out).items c.args.row.now.xs.items c.args.row.now.ys.items c.args.row.now.zs.items c.args.row.now.words.items places (λ i. chosen (is_true (operand_at r c.args.p i)) (operand_at r c.args.q i) (operand_at r c.args.t i)) (λ i. truths.chosen (number_of (operand_at r c.args.p i)) (number_of (operand_at r c.args.q i)) (number_of (operand_at r c.args.t i))) (λ i l. ap (λ xs. get_or xs i (pos 0)) (with_items_is c.args.row.now.numbers c.three_planes.new.out (c.three_planes.ensures.long ∙ ap length c.deref_mut.ensures.value ∙ sym c.args.row.now.numbers.ok.0)) ∙ c.three_planes.ensures.each i (subst (λ n. i < n) (sym (ap length c.deref_mut.ensures.value ∙ c.requires.room shapes.Number)) l) ∙ ap (λ z. truths.chosen z (plane_at c.numbers-b.result i) (plane_at c.numbers-c.result i)) (c.numbers-a.ensures.each i l) ∙ ap (λ z. truths.chosen (number_of (operand_at r c.args.p i)) z (plane_at c.numbers-c.result i)) (c.numbers-b.ensures.each i l) ∙ ap (λ z. truths.chosen (number_of (operand_at r c.args.p i)) (number_of (operand_at r c.args.q i)) z) (c.numbers-c.ensures.each i l)) (λ i l. choice_of_numbers r c.args.q c.args.t i (is_true (operand_at r c.args.p i)) c.requires.numbers)
