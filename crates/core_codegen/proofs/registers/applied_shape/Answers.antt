use Rattle.core_codegen.proofs.ValueRegisters.{no_shape}
use Rattle.core_codegen.proofs.registers.applied_shape.Goals as goal

pub returns-in_default-2 : goal.returns-in_default-2
returns-in_default-2 c = no_shape c.args.op c.args.operands.now c.in_default.len_at_least
