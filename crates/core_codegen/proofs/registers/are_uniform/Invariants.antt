use Rattle.std.proofs.Common.{◌≡◌, drop}
use Rattle.grid_code.specs.Shapes.{are_uniform_registers}
use Rattle.core_codegen.proofs.registers.are_uniform.Given as goal

abbrev pub invariant-loop-register : goal.invariant-loop-register
invariant-loop-register l = are_uniform_registers l.registers ≡ are_uniform_registers (drop l.register-index l.registers)
