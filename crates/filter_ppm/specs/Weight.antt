-- How much a sample counts for a pixel, by its place about the pixel's middle.
use Rattle.std.specs.Prelude.{ℕ, ◌+◌, ◌*◌, ◌/◌, ℤ, pos, neg_ℤ, ◌-ℤ◌, ◌*ℤ◌, Bool, cond, ◌&&◌, int_le, int_lt, unsigned_abs, [], ◌∷◌, ◌≡◌, refl}
use Rattle.fixed_math.specs.Whole.{floor_by}
use Rattle.fixed_math.specs.Spots.{Spot}
use Rattle.fixed_math.specs.Root.{isqrt, isqrt_from}
use Rattle.fixed_math.specs.Fixed.{add, mul}
use Rattle.fixed_math.specs.Power.{exp, exp2, exp_bits}
use Rattle.scene.specs.declared.filter.Filter.{Filter}
use Rattle.scene.specs.declared.filter.Filter.TheVariants.{Box, Triangle, Gaussian}
use Rattle.scene.specs.Settings.{OptionValues}

-- the place d lies within a filter of width w about 0, its left end with it
abbrev pub counts : ℕ → ℤ → Bool
counts w d = int_le (neg_ℤ (pos w)) (pos 2 *ℤ d) && int_lt (pos 2 *ℤ d) (pos w)

-- one direction of the triangle: 65536 in the middle, and 0 at the ends
unfoldable pub slope : ℕ → ℤ → ℤ
slope w d = floor_by (pos 65536 *ℤ (pos w -ℤ pos (2 * unsigned_abs d))) w

-- the place in the filter: 65536 is half of its width
unfoldable pub across : ℕ → ℤ → ℤ
across w d = floor_by (pos 131072 *ℤ d) w

-- e to the power -2 (x x + y y)
unfoldable pub bell : ℤ → ℤ → ℤ
bell x y = exp (mul (neg_ℤ (pos 131072)) (add (mul x x) (mul y y)))

-- the weight within a filter, by its kind
abbrev pub by_filter : Filter → ℕ → ℕ → ℤ → ℤ → ℤ
by_filter Box wx wy dx dy = pos 65536
by_filter Triangle wx wy dx dy = mul (slope wx dx) (slope wy dy)
by_filter Gaussian wx wy dx dy = bell (across wx dx) (across wy dy)

-- the weight of a sample at dx, dy from the pixel's middle, and 0 for one outside the filter
unfoldable pub weight : OptionValues → ℤ → ℤ → ℤ
weight o dx dy = cond (counts o.wx dx && counts o.wy dy) (by_filter o.filter o.wx o.wy dx dy) (pos 0)

-- how much a sample at this place counts for the pixel x, y, whose middle is at half a pixel
unfoldable pub weight_at : OptionValues → ℕ → ℕ → Spot → ℤ
weight_at o x y s = weight o (s.x -ℤ pos (256 * x + 128)) (s.y -ℤ pos (256 * y + 128))

-- the samples of pixels farther away than this, in one direction, don't count under a filter of width w in it
abbrev pub reach : ℕ → ℕ
reach w = (w + 511) / 512

-- worked values
abbrev of_filter : Filter → ℕ → OptionValues
of_filter f w = record { xs = 1; ys = 1; filter = f; wx = w; wy = w; gain = pos 65536; gamma = pos 65536; one = 255; min = 0; max = 255; crop = 0 ∷ 0 ∷ 1 ∷ 1 ∷ [] }

triangle_at_half : weight (of_filter Triangle 512) (pos 128) (pos 0) ≡ pos 32768
unfolding weight slope
triangle_at_half = refl

gaussian_in_middle : weight (of_filter Gaussian 512) (pos 0) (pos 0) ≡ pos 65536
unfolding weight across bell exp2 exp_bits isqrt isqrt_from
gaussian_in_middle = refl

box_right_end : weight (of_filter Box 256) (pos 128) (pos 0) ≡ pos 0
unfolding weight
box_right_end = refl

box_left_end : weight (of_filter Box 256) (neg_ℤ (pos 128)) (pos 0) ≡ pos 65536
unfolding weight
box_left_end = refl
