-- What a micropolygon on the raster shows at a place: which places it covers, and the means of its corners there.
use Rattle.std.specs.Prelude.{zero, suc, ℤ, pos, negsuc, ◌+ℤ◌, ◌*ℤ◌, Bool, cond, ◌&&◌, Option, Some, None}
use Rattle.std.specs.Option.{option_or}
use Rattle.fixed_math.specs.Axes.{part_of, by_axes}
use Rattle.fixed_math.specs.Edges.{edge, is_inside}
use Rattle.fixed_math.specs.Spots.{Spot}
use Rattle.fixed_math.specs.Whole.{floor_div}
use Rattle.fixed_math.specs.declared.vec3.Vec3.{Vec3}
use Rattle.hider.specs.declared.areas.Areas.{Areas}
use Rattle.hider.specs.declared.fragment.Fragment.{Fragment}
use Rattle.hider.specs.declared.quad.Corner.{Corner}
use Rattle.hider.specs.declared.quad.Quad.{Quad}

-- inside all three edges of a triangle
unfoldable pub is_in_three : Spot → Spot → Spot → Spot → Bool
is_in_three a b c s = is_inside a b s && (is_inside b c s && is_inside c a s)

-- the areas opposite to the corners of a triangle at a place, and its own, twice each
unfoldable pub areas_at : Spot → Spot → Spot → Spot → Areas
areas_at a b c s = record { a = edge b c s; b = edge c a s; c = edge a b s; whole = edge a b c }

-- the mean of a number of the corners, each weighed by the area opposite to it, rounded down
abbrev pub mean_at : Areas → ℤ → ℤ → ℤ → ℤ
mean_at w a b c = floor_div (w.a *ℤ a +ℤ w.b *ℤ b +ℤ w.c *ℤ c) w.whole

-- the mean of a colour of the corners
abbrev pub mean_colour_at : Areas → Vec3 → Vec3 → Vec3 → Vec3
mean_colour_at w a b c = by_axes (λ i. mean_at w (part_of i a) (part_of i b) (part_of i c))

-- what a triangle shows at a place: the mean of each number of its corners
abbrev pub means_at : Areas → Corner → Corner → Corner → Fragment
means_at w a b c = record {
  depth = mean_at w a.depth b.depth c.depth;
  colour = mean_colour_at w a.colour b.colour c.colour;
  opacity = mean_colour_at w a.opacity b.opacity c.opacity;
}

-- of a triangle of positive area, where it covers the place
unfoldable pub covers_facing : Corner → Corner → Corner → Spot → Option Fragment
covers_facing a b c s =
    cond (is_in_three a.place b.place c.place s) (Some (means_at (areas_at a.place b.place c.place s) a b c)) None

-- one of three values, by the sign of a number
abbrev pub by_sign : {A : Type 0} → ℤ → A → A → A → A
by_sign (negsuc n) below none above = below
by_sign (pos zero) below none above = none
by_sign (pos (suc n)) below none above = above

-- of any triangle: one without area covers nothing, and one of negative area is taken the other way round
unfoldable pub covers_triangle : Corner → Corner → Corner → Spot → Option Fragment
covers_triangle a b c s = by_sign (edge a.place b.place c.place) (covers_facing a c b s) None (covers_facing a b c s)

-- of a micropolygon, where it covers the place: in the triangle a, b, c, else in a, c, d
unfoldable pub covers : Quad → Spot → Option Fragment
covers q s = option_or (covers_triangle q.a q.b q.c s) (covers_triangle q.a q.c q.d s)
