-- Where the points of a leaf's grid are when their motion ends.
use Rattle.std.specs.Prelude.{ℕ, List, get_or, Option, option_map}
use Rattle.std.specs.Borrow.{Bor}
use Rattle.fixed_math.specs.declared.vec3.Vec3.{Vec3}
use Rattle.fixed_math.specs.Axes.{origin}
use Rattle.quadrics.specs.declared.any_patch.AnyPatch.{AnyPatch}
use Rattle.quadrics.specs.AnyPatches.{patch_point}
use Rattle.moving.specs.Closing.{closing_place}
use Rattle.grid_variables.specs.Points.{Leaf, own_u, own_v, point_at}
use Rattle.grid_variables.specs.Places.{point_count, over}

-- at place i: on the closing patch, and moved from there as displacement moved the point
abbrev pub closing_at : Leaf → List Vec3 → AnyPatch → ℕ → Vec3
closing_at l points last i = closing_place (patch_point last (own_u l i) (own_v l i)) (point_at l i) (get_or points i origin)

-- at all places, where the primitive moves
abbrev pub closing_of : Leaf → List Vec3 → Option (List Vec3)
closing_of l points = option_map (λ last. over (point_count l) (closing_at l points last)) l.prim.closing

-- the closing places that a grid has, if it moves
abbrev pub places_in : Option (Bor (List Vec3)) → Option (List Vec3)
places_in places = option_map (λ q. q.now) places
