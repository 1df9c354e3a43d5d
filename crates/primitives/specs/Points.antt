-- The points of primitives in camera space (RenderMan Interface 3.2, section 5).
use Rattle.std.specs.Prelude.{ℕ, ℤ, pos, List, [], ◌∷◌, map, Option, Some, None, slice_index_or}
use Rattle.fixed_math.specs.Fixed.{sat}
use Rattle.fixed_math.specs.declared.vec3.Vec3.{Vec3}
use Rattle.transforms.specs.Map.{Map, point_of}
use Rattle.mesh_basis.specs.Ranges.{with_next}
use Rattle.mesh_basis.specs.Polygons.{point}

-- the number at a place
abbrev pub item : List ℤ → ℕ → ℤ
item xs k = slice_index_or xs k (pos 0)

-- a raw place in camera space as a point; what passes the limit of a number is still out of a primitive's range
abbrev pub saturated : List ℤ → Vec3
saturated xs = record { x = sat (item xs 0); y = sat (item xs 1); z = sat (item xs 2) }

-- a point in camera space, kept within the range of numbers
abbrev pub camera_point : Map → Vec3 → Vec3
camera_point m p = saturated (point_of m p)

-- the points of three coordinates each, in camera space
abbrev pub points_from : Map → List ℤ → Option (List Vec3)
points_from m [] = Some []
points_from m (x ∷ y ∷ z ∷ xs) = with_next (Some (camera_point m (record { x = x; y = y; z = z }))) (points_from m xs)
points_from m _ = None

-- the points of these coordinates, where coordinates are there, under one map
abbrev pub placed_points : Map → Option (List ℤ) → Option (List Vec3)
placed_points m (Some xs) = points_from m xs
placed_points m None = None

-- the points of a face
abbrev pub face_points : List Vec3 → List ℕ → List Vec3
face_points ps corners = map (point ps) corners
