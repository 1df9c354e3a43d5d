use Rattle.std.proofs.Common.{◌≡◌, map, take}
use Rattle.builtins.specs.Triples.{normalize}
use Rattle.grid_variables.specs.Points.{turned}
use Rattle.grid_variables.proofs.at_points.units.Given as goal

abbrev pub invariant-loop-vector : goal.invariant-loop-vector
invariant-loop-vector l = l.units.items ≡ map (λ v. turned l.flip (normalize v)) (take l.vector-index l.vectors)
