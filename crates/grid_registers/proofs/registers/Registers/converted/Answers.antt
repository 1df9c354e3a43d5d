use Rattle.std.proofs.Common.{sym, ap, ◌∙◌, subst}
use Rattle.sl_ast.specs.declared.kinds.SpaceName.{SpaceName}
use Rattle.sl_ast.specs.declared.operations.ValueOperation.TheVariants as ops
use Rattle.builtins.specs.Table.{of_one}
use Rattle.builtins.specs.Values.{as_shape}
use Rattle.grid_registers.specs.declared.operand.Work.TheVariants as works
use Rattle.grid_registers.specs.Operands.{operand_at, work_at}
use Rattle.grid_registers.specs.Held.{texts_of, HoldsEach}
use Rattle.grid_registers.proofs.Parts.{same_held, converted_here}
use Rattle.grid_registers.proofs.registers.Registers.converted.Goals as goal

pub returns-in-Current-clause-each : goal.returns-in-Current-clause-each
unfolding of_one
returns-in-Current-clause-each c =
    let r = c.args.self.now in
    let row = c.into_shape.new.row in
    let P : SpaceName → Type 0 = λ s. HoldsEach (texts_of r) row r.frame.now.places (work_at r (works.One (ops.Convert c.args.kind s) c.args.p)) in
    subst P (sym c.in-Current.is)
    (same_held (texts_of r) row r.frame.now.places (λ i. as_shape c.shape_of.result (operand_at r c.args.p i)) _ (λ i. converted_here c.args.kind r.frame.now.setting.spaces.now (operand_at r c.args.p i) ∙ ap (λ s. as_shape s (operand_at r c.args.p i)) (sym c.shape_of.ensures)) c.into_shape.ensures.each)
