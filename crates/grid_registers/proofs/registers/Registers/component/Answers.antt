use Rattle.std.proofs.Common.{◌<◌, length, refl, sym, ap, ◌∙◌, subst, pos, get_or}
use Rattle.std.proofs.lemmas.List.{with_items_is}
use Rattle.std.specs.Vec.{with_items}
use Rattle.fixed_math.specs.Axes.{part_of}
use Rattle.sl_ast.specs.declared.typed.Value.TheVariants as values
use Rattle.builtins.specs.declared.shape.Shape.TheVariants as shapes
use Rattle.builtins.specs.Values.{triple_of}
use Rattle.grid_registers.specs.Operands.{operand_at}
use Rattle.grid_registers.specs.Held.{texts_of}
use Rattle.grid_registers.proofs.Parts.{as_many, holds_numbers}
use Rattle.grid_registers.proofs.registers.Registers.component.Goals as goal

pub copy-requires : goal.copy-requires
copy-requires c = as_many c.plane.result c.args.self.now.frame.now.places _ c.plane.ensures.plane (ap length c.deref_mut.ensures.value ∙ c.requires.room shapes.Number)

pub returns-clause-each : goal.returns-clause-each
returns-clause-each c =
    let r = c.args.self.now in
    let row = c.args.row.now in
    let long = ap length c.deref_mut.ensures.value in
    holds_numbers (texts_of r) (with_items row.numbers c.copy.new.out).items row.xs.items row.ys.items row.zs.items row.words.items r.frame.now.places (λ i. values.Number (part_of c.args.axis (triple_of (operand_at r c.args.p i)))) (λ i. part_of c.args.axis (triple_of (operand_at r c.args.p i)))
    (λ i l.
    ap (λ xs. get_or xs i (pos 0)) (with_items_is row.numbers c.copy.new.out (c.copy.ensures.long ∙ long ∙ sym row.numbers.ok.0)) ∙ c.copy.ensures.each i (subst (λ n. i < n) (sym (long ∙ c.requires.room shapes.Number)) l) ∙ c.plane.ensures.each i l) (λ i l. refl)
