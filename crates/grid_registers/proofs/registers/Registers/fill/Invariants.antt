use Rattle.std.proofs.Common.{◌≡◌}
use Rattle.builtins.specs.declared.shape.Shape.{Shape}
use Rattle.place_rows.specs.Banks.{size}
use Rattle.grid_registers.specs.Held.{texts_of}
use Rattle.grid_registers.specs.Operands.{work_at}
use Rattle.grid_registers.proofs.Filled.{Filled}
use Rattle.grid_registers.proofs.registers.Registers.fill.Given as goal

abbrev pub invariant-loop-place : goal.invariant-loop-place
invariant-loop-place l = ((s : Shape) → size l.row s ≡ size l.initial.row s) × Filled (texts_of l.self) l.row (work_at l.self l.work) l.place
