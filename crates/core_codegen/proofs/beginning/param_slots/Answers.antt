use Rattle.std.proofs.Common.{arith, refl}
use Rattle.core_codegen.proofs.ParamSlots.{params_next}
use Rattle.core_codegen.proofs.beginning.param_slots.Goals as goal

pub loop-param-preserved : goal.loop-param-preserved
loop-param-preserved c =
    params_next c.args.params.now c.loop-param.param-index c.param-item.result c.loop-param.slots.items c.push.new.self.items (record { uniform = c.param-item.result.uniform; kind = c.param-item.result.kind }) (omega arith) c.param-item.is refl
    c.in_ok-push.ensures.items c.loop-param.invariant
