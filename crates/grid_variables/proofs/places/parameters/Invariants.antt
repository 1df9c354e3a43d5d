use Rattle.std.proofs.Common.{◌≡◌}
use Rattle.grid_variables.specs.Places.{over, parameter_at}
use Rattle.grid_variables.proofs.places.parameters.Given as goal

abbrev pub invariant-loop-i : goal.invariant-loop-i
invariant-loop-i l = l.numbers.items ≡ over l.i (parameter_at l.along l.leaf)
