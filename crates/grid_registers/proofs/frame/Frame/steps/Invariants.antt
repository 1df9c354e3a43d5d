use Rattle.std.proofs.Common.{◌≡◌, length}
use Rattle.grid_registers.specs.LookUps.{AreSteps}
use Rattle.grid_registers.proofs.frame.Frame.steps.Given as goal

abbrev pub invariant-loop-place : goal.invariant-loop-place
invariant-loop-place l = (length l.steps ≡ length l.initial.steps) × AreSteps l.self l.sides l.at l.place l.steps
