-- The micropolygons of a grid whose points move, each on the straight way from its place to its closing place.
use Rattle.std.specs.Prelude.{ℕ, ◌≤◌, Bool, Option, Some, None, option_map, List, slice_index_or}
use Rattle.std.proofs.Common.{arith}
use Rattle.fixed_math.specs.declared.vec3.Vec3.{Vec3}
use Rattle.fixed_math.specs.declared.vec3.Axis.{Axis}
use Rattle.fixed_math.specs.Axes.{part_of, origin}
use Rattle.dice.specs.declared.diced.GridRef.{GridRef}
use Rattle.hider.specs.Cells.{first_corner}
use Rattle.hider.specs.CellValues.{CellValues, LiesBetween, MovesBetween, corner_number, grid_values, stays_between}
use Rattle.moving.specs.Ways.{place_on_way}
use Rattle.moving.specs.WayLaws.{place-between}

-- point n of these at a time: it stays, or is on its way to its closing place
abbrev pub point_when : Option (List Vec3) → List Vec3 → ℕ → ℕ → Vec3
point_when None points n t = slice_index_or points n origin
point_when (Some closing) points n t = place_on_way t (slice_index_or points n origin) (slice_index_or closing n origin)

-- the cells of a grid whose points move to closing places, if it has any: the colours and opacities are those of the grid at all times
abbrev pub moving_values : Bool → ℕ → ℕ → List Vec3 → List Vec3 → List Vec3 → Option (List Vec3) → CellValues
moving_values smooth columns rows points colours opacities closing =
    record (grid_values smooth columns rows points colours opacities) { corner = λ i k t. point_when closing points (corner_number columns (first_corner columns i) k) t }

-- the cells of a grid in an arena
abbrev pub values_when : Bool → GridRef → CellValues
values_when smooth g = moving_values smooth g.columns g.rows g.p.now g.ci.now g.oi.now (option_map (λ q. q.now) g.closing)

-- at any time a point lies between its places at an earlier and at a later one
pub point-between : (closing : Option (List Vec3)) (points : List Vec3) (n s t u : ℕ) (a : Axis) → s ≤ t → t ≤ u →
    LiesBetween (part_of a (point_when closing points n s)) (part_of a (point_when closing points n u)) (part_of a (point_when closing points n t))
point-between None points n s t u a h k = stays_between _
point-between (Some closing) points n s t u a h k = place-between s t u (slice_index_or points n origin) (slice_index_or closing n origin) a h k

pub moving-between : (smooth : Bool) (g : GridRef) → MovesBetween (values_when smooth g)
moving-between smooth g i k t a hi hk ht = point-between (option_map (λ q. q.now) g.closing) g.p.now (corner_number g.columns (first_corner g.columns i) k) 0 t 65535 a (omega arith) ht
