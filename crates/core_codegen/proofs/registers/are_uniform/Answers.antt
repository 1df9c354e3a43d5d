use Rattle.std.proofs.Common.{◌+◌, arith, drop, sym, ap, ◌∙◌}
use Rattle.std.specs.Prelude.{◌&&◌}
use Rattle.grid_code.specs.Shapes.{are_uniform_registers}
use Rattle.core_codegen.proofs.ValueRegisters.{uniform_next, nothing_left}
use Rattle.core_codegen.proofs.registers.are_uniform.Goals as goal

pub returns-then-not-is_uniform : goal.returns-then-not-is_uniform
returns-then-not-is_uniform c =
    sym (uniform_next c.args.registers.now c.loop-register.register-index _ c.is_uniform.result c.loop-register.invariant (omega arith) c.is_uniform.ensures
    ∙ ap (λ b. b && are_uniform_registers (drop (c.loop-register.register-index + 1) c.args.registers.now)) c.if-not-is_uniform.true)

pub loop-register-preserved : goal.loop-register-preserved
loop-register-preserved c =
    uniform_next c.args.registers.now c.loop-register.register-index _ c.is_uniform.result c.loop-register.invariant (omega arith) c.is_uniform.ensures
    ∙ ap (λ b. b && are_uniform_registers (drop (c.loop-register.register-index + 1) c.args.registers.now)) c.if-not-is_uniform.false

pub returns : goal.returns
returns c = sym (c.loop-register.invariant ∙ ap are_uniform_registers (nothing_left c.args.registers.now _ (omega arith)))
