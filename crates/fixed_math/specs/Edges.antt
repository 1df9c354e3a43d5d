-- The test of a place against an edge on the raster.
use Rattle.std.specs.Prelude.{zero, suc, ℤ, pos, negsuc, ◌-ℤ◌, ◌*ℤ◌, Bool, true, false, int_lt, ◌≡◌, refl}
use Rattle.fixed_math.specs.Spots.{Spot}

-- twice the area of the triangle a, b, s: above 0 where s lies on the one side of the line from a to b
unfoldable pub edge : Spot → Spot → Spot → ℤ
edge a b s = (b.x -ℤ a.x) *ℤ (s.y -ℤ a.y) -ℤ (b.y -ℤ a.y) *ℤ (s.x -ℤ a.x)

-- whether an edge with this step owns the places on it: the rule of left and upper edges
abbrev pub owns : ℤ → ℤ → Bool
owns dx (negsuc n) = true
owns dx (pos zero) = int_lt (pos 0) dx
owns dx (pos (suc n)) = false

-- by the side of an edge: above it, or on it and owned
abbrev pub by_side : ℤ → Bool → Bool
by_side (negsuc n) o = false
by_side (pos zero) o = o
by_side (pos (suc n)) o = true

-- inside the edge from a to b, or on it where the edge owns it
unfoldable pub is_inside : Spot → Spot → Spot → Bool
is_inside a b s = by_side (edge a b s) (owns (b.x -ℤ a.x) (b.y -ℤ a.y))

-- worked values: a place on an edge that goes to the right, and on the same edge the other way
abbrev spot : ℤ → ℤ → Spot
spot x y = record { x = x; y = y }

on_upper_edge : is_inside (spot (pos 0) (pos 0)) (spot (pos 4) (pos 0)) (spot (pos 2) (pos 0)) ≡ true
unfolding is_inside edge
on_upper_edge = refl

on_lower_edge : is_inside (spot (pos 4) (pos 0)) (spot (pos 0) (pos 0)) (spot (pos 2) (pos 0)) ≡ false
unfolding is_inside edge
on_lower_edge = refl
