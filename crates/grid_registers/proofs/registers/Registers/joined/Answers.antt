use Rattle.std.proofs.Common.{sym, subst}
use Rattle.sl_ast.specs.declared.kinds.SpaceName.{SpaceName}
use Rattle.sl_ast.specs.declared.operations.ValueOperation.TheVariants as ops
use Rattle.grid_registers.specs.declared.operand.Work.TheVariants as works
use Rattle.grid_registers.specs.Operands.{work_at}
use Rattle.grid_registers.specs.Held.{texts_of, HoldsEach}
use Rattle.grid_registers.proofs.registers.Registers.joined.Goals as goal

pub returns-in-Current-clause-each : goal.returns-in-Current-clause-each
returns-in-Current-clause-each c =
    let r = c.args.self.now in
    let P : SpaceName → Type 0 = λ s. HoldsEach (texts_of r) c.joined_here.new.row r.frame.now.places (work_at r (works.Three (ops.Triple c.args.kind s) c.args.p c.args.q c.args.t)) in
    subst P (sym c.in-Current.is) c.joined_here.ensures.each
