use Rattle.std.proofs.Common.{◌≡◌}
use Rattle.grid_variables.specs.Places.{over, derivative_at}
use Rattle.grid_variables.proofs.places.derivatives.Given as goal

abbrev pub invariant-loop-i : goal.invariant-loop-i
invariant-loop-i l = l.vectors.items ≡ over l.i (derivative_at l.along l.leaf)
