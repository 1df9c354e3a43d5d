use Rattle.std.proofs.Common.{◌≡◌}
use Rattle.builtins.specs.declared.shape.Shape.{Shape}
use Rattle.builtins.specs.Differences.{difference}
use Rattle.place_rows.specs.Banks.{size}
use Rattle.grid_registers.specs.Held.{texts_of}
use Rattle.grid_registers.specs.Frames.{lines_of}
use Rattle.grid_registers.specs.Operands.{operand_at}
use Rattle.grid_registers.proofs.Filled.{Filled}
use Rattle.grid_registers.proofs.registers.Registers.fill_differences.Given as goal

abbrev pub invariant-loop-place : goal.invariant-loop-place
invariant-loop-place l = ((s : Shape) → size l.row s ≡ size l.initial.row s) × Filled (texts_of l.self) l.row (difference l.difference (lines_of l.self.frame.now) l.self.frame.now.setting.spaces.now.flip (operand_at l.self l.of)) l.place
