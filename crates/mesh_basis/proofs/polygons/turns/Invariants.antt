use Rattle.std.proofs.Common.{◌≡◌, ◌-◌, ◌*◌, ◌^◌, ◌≤◌, unsigned_abs}
use Rattle.mesh_basis.specs.Polygons.{turn, sum_from}
use Rattle.mesh_basis.proofs.polygons.turns.Given as goal

abbrev pub invariant-loop-k : goal.invariant-loop-k
invariant-loop-k l = (l.sum ≡ sum_from (turn l.points l.axis) 1 (l.k - 1)) × (unsigned_abs l.sum ≤ 2 ^ 65 * (l.k - 1))
