use Rattle.std.proofs.Common.{◌<◌, length, refl, sym, ap, ◌∙◌, subst, pos, get_or}
use Rattle.std.proofs.lemmas.List.{with_items_is}
use Rattle.std.specs.Vec.{with_items}
use Rattle.sl_ast.specs.declared.typed.Value.TheVariants as values
use Rattle.builtins.specs.declared.shape.Shape.TheVariants as shapes
use Rattle.builtins.specs.Values.{number_of}
use Rattle.number_rows.specs.Planes.{plane_at}
use Rattle.grid_registers.specs.Operands.{operand_at}
use Rattle.grid_registers.specs.Held.{texts_of}
use Rattle.grid_registers.proofs.Parts.{as_many, holds_numbers}
use Rattle.grid_registers.proofs.registers.Registers.number_of_three.Goals as goal

pub three_planes-requires-clause-a : goal.three_planes-requires-clause-a
three_planes-requires-clause-a g c = as_many c.numbers-a.result c.args.self.now.frame.now.places _ c.numbers-a.ensures.plane (ap length c.deref_mut.ensures.value ∙ c.requires.room shapes.Number)

pub three_planes-requires-clause-b : goal.three_planes-requires-clause-b
three_planes-requires-clause-b g c = as_many c.numbers-b.result c.args.self.now.frame.now.places _ c.numbers-b.ensures.plane (ap length c.deref_mut.ensures.value ∙ c.requires.room shapes.Number)

pub three_planes-requires-clause-c : goal.three_planes-requires-clause-c
three_planes-requires-clause-c g c = as_many c.numbers-c.result c.args.self.now.frame.now.places _ c.numbers-c.ensures.plane (ap length c.deref_mut.ensures.value ∙ c.requires.room shapes.Number)

pub returns-clause-each : goal.returns-clause-each
returns-clause-each g c =
    let r = c.args.self.now in
    let f = g.K.Three.formula in
    let row = c.args.row.now in
    let new = c.three_planes.new.out in
    let long = ap length c.deref_mut.ensures.value in
    holds_numbers (texts_of r) (with_items row.numbers new).items row.xs.items row.ys.items row.zs.items row.words.items r.frame.now.places (λ i. values.Number (f (number_of (operand_at r c.args.p i)) (number_of (operand_at r c.args.q i)) (number_of (operand_at r c.args.t i)))) (λ i. f (number_of (operand_at r c.args.p i)) (number_of (operand_at r c.args.q i)) (number_of (operand_at r c.args.t i)))
    (λ i l.
    ap (λ xs. get_or xs i (pos 0)) (with_items_is row.numbers new (c.three_planes.ensures.long ∙ long ∙ sym row.numbers.ok.0))
    ∙ c.three_planes.ensures.each i (subst (λ n. i < n) (sym (long ∙ c.requires.room shapes.Number)) l) ∙ ap (λ z. f z (plane_at c.numbers-b.result i) (plane_at c.numbers-c.result i)) (c.numbers-a.ensures.each i l)
    ∙ ap (λ z. f (number_of (operand_at r c.args.p i)) z (plane_at c.numbers-c.result i)) (c.numbers-b.ensures.each i l)
    ∙ ap (λ z. f (number_of (operand_at r c.args.p i)) (number_of (operand_at r c.args.q i)) z) (c.numbers-c.ensures.each i l)) (λ i l. refl)
