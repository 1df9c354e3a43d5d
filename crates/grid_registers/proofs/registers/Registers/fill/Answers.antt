use Rattle.std.proofs.Common.{◌∙◌}
use Rattle.grid_registers.specs.Held.{texts_of}
use Rattle.grid_registers.specs.Operands.{work_at}
use Rattle.grid_registers.proofs.Filled.{filled_next}
use Rattle.grid_registers.proofs.registers.Registers.fill.Goals as goal

pub loop-place-preserved : goal.loop-place-preserved
loop-place-preserved c = (
  λ s. c.set.ensures.size s ∙ c.loop-place.invariant.0 s,
  filled_next (texts_of c.args.self.now) c.loop-place.row c.set.new.self (work_at c.args.self.now c.args.work.now) c.loop-place.place c.value.result c.loop-place.invariant.1 c.value.ensures c.set.ensures.value,
)
