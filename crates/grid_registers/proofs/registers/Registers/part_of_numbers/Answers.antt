use Rattle.std.proofs.Common.{◌<◌, length, sym, ap, ◌∙◌, subst, pos, get_or}
use Rattle.std.proofs.lemmas.List.{with_items_is}
use Rattle.std.specs.Vec.{with_items}
use Rattle.builtins.specs.declared.shape.Shape.TheVariants as shapes
use Rattle.builtins.specs.Formulas as formulas
use Rattle.builtins.specs.Values.{number_of, by_part}
use Rattle.grid_registers.specs.Operands.{operand_at}
use Rattle.grid_registers.specs.Held.{texts_of}
use Rattle.grid_registers.proofs.Parts.{as_many, holds_numbers, one_of_number}
use Rattle.grid_registers.proofs.registers.Registers.part_of_numbers.Goals as goal

pub part_row-requires : goal.part_row-requires
part_row-requires c = as_many c.numbers.result c.args.self.now.frame.now.places _ c.numbers.ensures.plane (ap length c.deref_mut.ensures.value ∙ c.requires.room shapes.Number)

pub returns-clause-each : goal.returns-clause-each
returns-clause-each c =
    let r = c.args.self.now in
    let places = r.frame.now.places in
    holds_numbers (texts_of r) (with_items c.args.row.now.numbers c.part_row.new.out).items c.args.row.now.xs.items c.args.row.now.ys.items c.args.row.now.zs.items c.args.row.now.words.items places (λ i. by_part (formulas.part c.args.op) (operand_at r c.args.p i)) (λ i. formulas.part c.args.op (number_of (operand_at r c.args.p i))) (λ i l. ap (λ xs. get_or xs i (pos 0)) (with_items_is c.args.row.now.numbers c.part_row.new.out (c.part_row.ensures.long ∙ ap length c.deref_mut.ensures.value ∙ sym c.args.row.now.numbers.ok.0)) ∙ c.part_row.ensures.each i (subst (λ n. i < n) (sym (ap length c.deref_mut.ensures.value ∙ c.requires.room shapes.Number)) l) ∙ ap (λ z. formulas.part c.args.op z) (c.numbers.ensures.each i l)) (λ i l. one_of_number r c.args.p c.args.p c.args.p i (formulas.part c.args.op) c.requires.numbers)
