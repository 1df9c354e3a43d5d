-- Places on the raster, in 1/256 pixel from the left and from the top.
use Rattle.std.specs.Prelude.{ℕ, ◌*◌, ◌^◌, ℤ, pos, neg_ℤ, ◌-ℤ◌, ◌*ℤ◌, ◌≤ℤ◌, unsigned_abs, Option, Some, None, List, [], ◌∷◌, map, slice_index_or, ◌≡◌, refl}
use Rattle.std.specs.Int.{int_min, int_max}
use Rattle.std.specs.List.{fold}
use Rattle.fixed_math.specs.Whole.{floor_by, clamp}
use Rattle.fixed_math.specs.declared.vec3.Vec3.{Vec3}
use Rattle.fixed_math.specs.Axes.{IsInBox}
use Rattle.transforms.specs.declared.view.View.{View}
use Rattle.transforms.specs.Field.{left, right, bottom, top, scale_of}

-- a place put into -2^28 to 2^28
abbrev pub clamped : ℤ → ℤ
clamped x = clamp (neg_ℤ (pos 268435456)) (pos 268435456) x

-- the place of x in a window from l to r over w pixels, at the depth z with the tangent t where there is perspective
abbrev pub x_place : Option ℕ → ℕ → ℤ → ℤ → ℤ → ℕ → ℤ
x_place None w l r x z = floor_by (pos (256 * w) *ℤ (x -ℤ l)) (unsigned_abs (r -ℤ l))
x_place (Some t) w l r x z =
    floor_by (pos (256 * w) *ℤ (pos (2 ^ 32) *ℤ x -ℤ pos (z * t) *ℤ l)) (z * t * unsigned_abs (r -ℤ l))

-- the place of y in a window from b to u over h pixels, down from the top
abbrev pub y_place : Option ℕ → ℕ → ℤ → ℤ → ℤ → ℕ → ℤ
y_place None h b u y z = floor_by (pos (256 * h) *ℤ (u -ℤ y)) (unsigned_abs (u -ℤ b))
y_place (Some t) h b u y z =
    floor_by (pos (256 * h) *ℤ (pos (z * t) *ℤ u -ℤ pos (2 ^ 32) *ℤ y)) (z * t * unsigned_abs (u -ℤ b))

-- what a camera makes of an x, and of a y, at a depth
abbrev pub column_at : View → ℤ → ℕ → ℤ
column_at v x z = clamped (x_place (scale_of v) v.width (left v) (right v) x z)

-- the place from above of a y and a depth, put into range
abbrev pub row_at : View → ℤ → ℕ → ℤ
row_at v y z = clamped (y_place (scale_of v) v.height (bottom v) (top v) y z)

-- where a camera sees a point, from the left
abbrev pub raster_x : View → Vec3 → ℤ
raster_x v p = column_at v p.x (unsigned_abs p.z)

-- where it sees it, from above
abbrev pub raster_y : View → Vec3 → ℤ
raster_y v p = row_at v p.y (unsigned_abs p.z)

-- q isn't further left than p, nor does it lie further left on the raster; this holds of all points without perspective, and in
-- perspective of points at one depth (a point further right but deeper may lie further left)
abbrev pub GoesRight : View → Vec3 → Vec3 → Type 0
GoesRight v p q = p.x ≤ℤ q.x → raster_x v p ≤ℤ raster_x v q

-- and q isn't lower than p, nor does it lie further down
abbrev pub GoesUp : View → Vec3 → Vec3 → Type 0
GoesUp v p q = p.y ≤ℤ q.y → raster_y v q ≤ℤ raster_y v p

-- the place of a point, across and down
abbrev pub place_of : View → Vec3 → List ℤ
place_of v p = raster_x v p ∷ raster_y v p ∷ []

-- the eight corners of the box from a to b
abbrev pub box_corners : Vec3 → Vec3 → List Vec3
box_corners a b =
    record { x = a.x; y = a.y; z = a.z } ∷ record { x = b.x; y = a.y; z = a.z } ∷ record { x = a.x; y = b.y; z = a.z } ∷ record { x = b.x; y = b.y; z = a.z } ∷
    record { x = a.x; y = a.y; z = b.z } ∷ record { x = b.x; y = a.y; z = b.z } ∷ record { x = a.x; y = b.y; z = b.z } ∷ record { x = b.x; y = b.y; z = b.z } ∷ []

-- a place's number across (0) or down (1)
abbrev pub number : ℕ → List ℤ → ℤ
number k q = slice_index_or q k (pos 0)

-- the least and the greatest of such a number over places, of which there is one
abbrev pub least_place : ℕ → List (List ℤ) → ℤ
least_place k [] = pos 0
least_place k (q ∷ qs) = fold (λ m r. int_min m (number k r)) (number k q) qs

abbrev pub greatest_place : ℕ → List (List ℤ) → ℤ
greatest_place k [] = pos 0
greatest_place k (q ∷ qs) = fold (λ m r. int_max m (number k r)) (number k q) qs

-- the first and the last corner of the least box that holds the places
unfoldable pub box_of_places : List (List ℤ) → List (List ℤ)
box_of_places qs = (least_place 0 qs ∷ least_place 1 qs ∷ []) ∷ (greatest_place 0 qs ∷ greatest_place 1 qs ∷ []) ∷ []

-- the box on the raster of the corners of the box from a to b
abbrev pub raster_box : View → Vec3 → Vec3 → List (List ℤ)
raster_box v a b = box_of_places (map (place_of v) (box_corners a b))

-- a corner of a box on the raster, and a number of it
abbrev pub side : ℕ → ℕ → List (List ℤ) → ℤ
side k c box = number k (slice_index_or box c [])

-- the place of each point of the box from a to b lies in that box on the raster
abbrev pub HoldsPlaces : View → Vec3 → Vec3 → Type 0
HoldsPlaces v a b = (p : Vec3) → IsInBox a b p →
    (side 0 0 (raster_box v a b) ≤ℤ raster_x v p) × (raster_x v p ≤ℤ side 0 1 (raster_box v a b)) ×
    (side 1 0 (raster_box v a b) ≤ℤ raster_y v p) × (raster_y v p ≤ℤ side 1 1 (raster_box v a b))

-- worked values: a point one to the right and one up at a distance of two, in two pixels that show -1 to 1
across_at_two : clamped (x_place (Some 65536) 2 (neg_ℤ (pos 65536)) (pos 65536) (pos 65536) 131072) ≡ pos 384
across_at_two = refl

down_at_two : clamped (y_place (Some 65536) 2 (neg_ℤ (pos 65536)) (pos 65536) (pos 65536) 131072) ≡ pos 128
down_at_two = refl

across_when_flat : clamped (x_place None 2 (neg_ℤ (pos 65536)) (pos 65536) (pos 65536) 131072) ≡ pos 512
across_when_flat = refl

box_of_three : box_of_places ((pos 3 ∷ pos 9 ∷ []) ∷ (neg_ℤ (pos 4) ∷ pos 7 ∷ []) ∷ (pos 5 ∷ pos 8 ∷ []) ∷ []) ≡ (neg_ℤ (pos 4) ∷ pos 7 ∷ []) ∷ (pos 5 ∷ pos 9 ∷ []) ∷ []
unfolding box_of_places
box_of_three = refl
