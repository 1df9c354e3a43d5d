-- Convex polygons as bilinear patches (RenderMan Interface 3.2, section 5.1, Polygon): each takes up to three points more beside the
-- first one.
use Rattle.std.specs.Prelude.{ℕ, zero, suc, ◌+◌, ◌-◌, ◌*◌, ◌/◌, nat_le, nat_lt, ℤ, pos, ◌+ℤ◌, ◌-ℤ◌, ◌*ℤ◌, List, [], ◌∷◌, length, map, Result, Ok, Err, if◌then◌else◌, slice_index_or, ◌≡◌, refl}
use Rattle.std.specs.List.{range_with_len}
use Rattle.fixed_math.specs.declared.vec3.Vec3.{Vec3}
use Rattle.fixed_math.specs.declared.vec3.Axis.{Axis}
use Rattle.fixed_math.specs.declared.vec3.Axis.TheVariants.{X, Y, Z}
use Rattle.fixed_math.specs.Axes.{part_of, origin}
use Rattle.fixed_math.specs.Unit.{unit_part}
use Rattle.patches.specs.declared.patch.Patch.{Patch}
use Rattle.patches.specs.declared.patch.Patch.TheVariants.{Bilinear}
use Rattle.mesh_basis.specs.Ranges.{are_in_range}
use Rattle.mesh_basis.specs.declared.fault.MeshFault.{MeshFault}
use Rattle.mesh_basis.specs.declared.fault.MeshFault.TheVariants.{G5, M7}

-- how many pieces a polygon of n points has
abbrev pub piece_count : ℕ → ℕ
piece_count n = (n - 1) / 2

-- the points of piece i of n, in the order of a bilinear patch's corners: with k = 2 * i + 1 the first point, k, k + 2 and k + 1; where
-- there is no point k + 2 the piece is a triangle
abbrev pub piece_corners : ℕ → ℕ → List ℕ
piece_corners n i = 0 ∷ (2 * i + 1) ∷ (if nat_lt (2 * i + 3) n then 2 * i + 3 else 2 * i + 2) ∷ (2 * i + 2) ∷ []

abbrev pub point : List Vec3 → ℕ → Vec3
point ps k = slice_index_or ps k origin

-- piece i of a polygon
abbrev pub piece_of : List Vec3 → ℕ → Patch
piece_of ps i = Bilinear (map (point ps) (piece_corners (length ps) i))

-- the bilinear pieces of a polygon about its first point
abbrev pub pieces_of : List Vec3 → List Patch
pieces_of ps = map (piece_of ps) (range_with_len 0 (piece_count (length ps)))

-- ---- the flat normal

-- the axes behind an axis, in the order x, y, z, x, y
abbrev pub next : Axis → Axis
next X = Y
next Y = Z
next Z = X

abbrev pub after : Axis → Axis
after X = Z
after Y = X
after Z = Y

-- how far point k lies from the first one
abbrev pub away : List Vec3 → Axis → ℕ → ℤ
away ps a k = part_of a (point ps k) -ℤ part_of a (point ps 0)

-- a number of the cross product of points k and k + 1 about the first one
abbrev pub turn : List Vec3 → Axis → ℕ → ℤ
turn ps a k = away ps (next a) k *ℤ away ps (after a) (k + 1) -ℤ away ps (after a) k *ℤ away ps (next a) (k + 1)

-- f of the n numbers from k on, added up
unfoldable pub sum_from : (ℕ → ℤ) → ℕ → ℕ → ℤ
sum_from f k zero = pos 0
sum_from f k (suc n) = f k +ℤ sum_from f (k + 1) n

-- a number of the sum of all these cross products
abbrev pub turns : List Vec3 → Axis → ℤ
turns ps a = sum_from (turn ps a) 1 (length ps - 2)

-- the unit vector of an exact direction
unfoldable pub direction : ℤ → ℤ → ℤ → Vec3
direction x y z = record { x = unit_part x x y z; y = unit_part y x y z; z = unit_part z x y z }

-- the unit of the sum: the normal of a polygon that is flat, and a mean of one that is not
abbrev pub flat_normal : List Vec3 → Vec3
flat_normal ps = direction (turns ps X) (turns ps Y) (turns ps Z)

-- the pieces of a polygon and its normal, or the first fault: of the counts, then of the range
abbrev pub polygon_of : List Vec3 → Result (List Patch × Vec3) MeshFault
polygon_of ps = if nat_le 3 (length ps) then (if are_in_range ps then Ok (pieces_of ps, flat_normal ps) else Err M7) else Err G5

-- worked values
abbrev at : ℕ → ℕ → Vec3
at x y = record { x = pos x; y = pos y; z = pos 0 }

abbrev square : List Vec3
square = at 0 0 ∷ at 2 0 ∷ at 2 2 ∷ at 0 2 ∷ []

pieces_of_square : pieces_of square ≡ Bilinear (at 0 0 ∷ at 2 0 ∷ at 0 2 ∷ at 2 2 ∷ []) ∷ []
pieces_of_square = refl

pieces_of_pentagon : pieces_of (at 0 0 ∷ at 2 0 ∷ at 3 2 ∷ at 1 3 ∷ at 0 2 ∷ []) ≡
    Bilinear (at 0 0 ∷ at 2 0 ∷ at 1 3 ∷ at 3 2 ∷ []) ∷ Bilinear (at 0 0 ∷ at 1 3 ∷ at 0 2 ∷ at 0 2 ∷ []) ∷ []
pieces_of_pentagon = refl

turns_of_square : turns square Z ≡ pos 8
unfolding sum_from
turns_of_square = refl
