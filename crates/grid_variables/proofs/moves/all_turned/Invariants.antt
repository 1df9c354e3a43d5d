use Rattle.std.proofs.Common.{◌≡◌, map, take}
use Rattle.grid_variables.specs.Points.{turned}
use Rattle.grid_variables.proofs.moves.all_turned.Given as goal

abbrev pub invariant-loop-normal : goal.invariant-loop-normal
invariant-loop-normal l = l.turning.items ≡ map (λ n. turned l.flip n) (take l.normal-index l.normals)
