use Rattle.std.proofs.Common.{◌∙◌}
use Rattle.builtins.specs.Differences.{difference}
use Rattle.grid_registers.specs.Held.{texts_of}
use Rattle.grid_registers.specs.Frames.{lines_of}
use Rattle.grid_registers.specs.Operands.{operand_at}
use Rattle.grid_registers.proofs.Filled.{filled_next}
use Rattle.grid_registers.proofs.registers.Registers.fill_differences.Goals as goal

pub loop-place-preserved : goal.loop-place-preserved
loop-place-preserved c =
    let r = c.args.self.now in
    let f = difference c.args.difference (lines_of r.frame.now) r.frame.now.setting.spaces.now.flip (operand_at r c.args.of) in (
      λ s. c.set.ensures.size s ∙ c.loop-place.invariant.0 s,
      filled_next (texts_of r) c.loop-place.row c.set.new.self f c.loop-place.place c.difference.result c.loop-place.invariant.1 c.difference.ensures c.set.ensures.value,
    )
