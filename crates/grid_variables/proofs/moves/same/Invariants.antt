use Rattle.std.proofs.Common.{◌≡◌}
use Rattle.grid_variables.specs.Places.{over}
use Rattle.grid_variables.proofs.moves.same.Given as goal

abbrev pub invariant-loop-point : goal.invariant-loop-point
invariant-loop-point l = l.triples.items ≡ over l._point (λ i. l.triple)
