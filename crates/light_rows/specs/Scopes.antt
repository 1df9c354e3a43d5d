-- For private contracts alone: points and cones that are kept while code runs.
use Rattle.std.specs.Prelude.{ℕ, pos, Bool, true, int_le, cond, get_or}
use Rattle.fixed_math.specs.declared.vec3.Vec3.{Vec3}
use Rattle.builtins.specs.Triples.{dot, normalize}
use Rattle.number_rows.specs.Planes.{triple_in}
use Rattle.light_rows.specs.declared.points.Points.{Points}
use Rattle.light_rows.specs.declared.cones.Cones.{Cones}
use Rattle.light_rows.specs.declared.cones.OneCone.{OneCone}
use Rattle.light_rows.specs.declared.cones.Scope.{Scope}

abbrev pub kept_at : Points → ℕ → Vec3
kept_at p i = triple_in p.x.row p.y.row p.z.row i

abbrev pub points_at : Scope → ℕ → Vec3
points_at s i = kept_at s.points i

-- a direction lies in a cone, by the unit of its axis and the cosine of its angle
abbrev pub one_at : OneCone → Vec3 → Bool
one_at one l = int_le one.cosine (dot (normalize l) one.axis)

-- the same of the cone of a place
abbrev pub cones_at : Cones → ℕ → Vec3 → Bool
cones_at s i l = cond s.given (int_le (get_or s.cosines.row i (pos 0)) (dot (normalize l) (kept_at s.axes i))) true

abbrev pub scope_at : Scope → ℕ → Vec3 → Bool
scope_at s i l = cones_at s.cones i l
