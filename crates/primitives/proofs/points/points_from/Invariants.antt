use Rattle.std.proofs.Common.{◌≡◌, length}
use Rattle.mesh_basis.proofs.Runs.{with_front}
use Rattle.primitives.specs.Points.{points_from}
use Rattle.primitives.proofs.points.points_from.Given as goal

abbrev pub invariant-loop-rest : goal.invariant-loop-rest
invariant-loop-rest l = with_front l.points.items (points_from l.object l.rest) ≡ points_from l.object l.numbers

abbrev pub decreases-loop-rest : goal.decreases-loop-rest
decreases-loop-rest l = length l.rest
