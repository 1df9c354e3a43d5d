-- Points by their coordinates.
use Rattle.std.specs.Prelude.{ℕ, ◌≤◌, ℤ, pos, List, [], ◌∷◌, unsigned_abs, slice_index_or, ◌≤ℤ◌}
use Rattle.std.specs.Int.{int_min, int_max}
use Rattle.std.specs.List.{fold}
use Rattle.fixed_math.specs.declared.vec3.Vec3.{Vec3}
use Rattle.fixed_math.specs.declared.vec3.Axis.{Axis}
use Rattle.fixed_math.specs.declared.vec3.Axis.TheVariants.{X, Y, Z}

-- a point's coordinate along an axis
abbrev pub part_of : Axis → Vec3 → ℤ
part_of X p = p.x
part_of Y p = p.y
part_of Z p = p.z

-- the point with these coordinates
abbrev pub by_axes : (Axis → ℤ) → Vec3
by_axes f = record { x = f X; y = f Y; z = f Z }

-- the point 0, 0, 0
abbrev pub origin : Vec3
origin = by_axes (λ _. pos 0)

-- each coordinate of each point has a magnitude of at most m
abbrev pub AreWithin : ℕ → List Vec3 → Type 0
AreWithin m ps = (k : ℕ) (a : Axis) → unsigned_abs (part_of a (slice_index_or ps k origin)) ≤ m

-- the least and the greatest of a coordinate over a list that isn't empty
abbrev pub least : Axis → List Vec3 → ℤ
least a [] = pos 0
least a (p ∷ ps) = fold (λ m q. int_min m (part_of a q)) (part_of a p) ps

-- the greatest coordinate of points along an axis
abbrev pub greatest : Axis → List Vec3 → ℤ
greatest a [] = pos 0
greatest a (p ∷ ps) = fold (λ m q. int_max m (part_of a q)) (part_of a p) ps

-- the least box that holds the points, by its first and last corner
abbrev pub box_of_points : List Vec3 → List Vec3
box_of_points ps = by_axes (λ a. least a ps) ∷ by_axes (λ a. greatest a ps) ∷ []

-- p lies in the box from lo to hi
abbrev pub IsInBox : Vec3 → Vec3 → Vec3 → Type 0
IsInBox lo hi p = (a : Axis) → (part_of a lo ≤ℤ part_of a p) × (part_of a p ≤ℤ part_of a hi)
