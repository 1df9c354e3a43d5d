use Rattle.std.proofs.Common.{◌≡◌, ℕ, ◌<◌, length, get_or}
use Rattle.fixed_math.specs.declared.vec3.Vec3.{Vec3}
use Rattle.moving.specs.Ways.{place_on_way}
use Rattle.primitives.proofs.ways.array_on_way.Given as goal

abbrev pub invariant-loop-k : goal.invariant-loop-k
invariant-loop-k g l = (length l.points ≡ g.row.N) × ((k : ℕ) (d : Vec3) → k < l.k → get_or l.points k d ≡ place_on_way l.steps (get_or l.first k d) (get_or l.last k d))
