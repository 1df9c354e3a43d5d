-- The weighted mean of colours.
use Rattle.std.specs.Prelude.{ℕ, zero, ◌+◌, ◌*◌, ◌≤◌, ℤ, pos, ◌+ℤ◌, ◌*ℤ◌, ◌≤ℤ◌, unsigned_abs, List, [], ◌∷◌}
use Rattle.fixed_math.specs.Axes.{part_of, by_axes}
use Rattle.fixed_math.specs.Whole.{floor_div}
use Rattle.fixed_math.specs.declared.vec3.Vec3.{Vec3}

-- the sum of a number over all items of a list
abbrev pub sum_of : {A : Type 0} → (A → ℤ) → List A → ℤ
sum_of g [] = pos 0
sum_of g (s ∷ ss) = g s +ℤ sum_of g ss

-- a sum over the sum of the weights, rounded down, and 0 where that is 0
abbrev pub mean_part : ℤ → ℤ → ℤ
mean_part sum (pos zero) = pos 0
mean_part sum weight = floor_div sum weight

-- the weighted mean of the colours of a list's items
unfoldable pub weighted_mean : {A : Type 0} → (A → ℤ) → (A → Vec3) → List A → Vec3
weighted_mean weight colour items = by_axes (λ a. mean_part (sum_of (λ s. weight s *ℤ part_of a (colour s)) items) (sum_of weight items))

-- the sums over some weighted colours: how many, their weights, and each channel times the weight
pub record Totals : Type 0 where
  pub count : ℕ
  pub weight : ℤ
  pub x : ℤ
  pub y : ℤ
  pub z : ℤ

abbrev pub nothing : Totals
nothing = record { count = 0; weight = pos 0; x = pos 0; y = pos 0; z = pos 0 }

-- with one more colour c of weight w
abbrev pub with_colour : Totals → ℤ → Vec3 → Totals
with_colour t w c = record { count = t.count + 1; weight = t.weight +ℤ w; x = t.x +ℤ w *ℤ c.x; y = t.y +ℤ w *ℤ c.y; z = t.z +ℤ w *ℤ c.z }

-- the mean that sums make
abbrev pub mean : Totals → Vec3
mean t = record { x = mean_part t.x t.weight; y = mean_part t.y t.weight; z = mean_part t.z t.weight }

-- sums of at most 2 ^ 25 numbers and of weights that aren't below 0
pub record AreTotals (t : Totals) : Type 0 where
  pub few : t.count ≤ 33554432
  pub weight_low : pos 0 ≤ℤ t.weight
  pub weight_high : unsigned_abs t.weight ≤ t.count * 2147483647
  pub x_high : unsigned_abs t.x ≤ unsigned_abs t.weight * 2147483647
  pub y_high : unsigned_abs t.y ≤ unsigned_abs t.weight * 2147483647
  pub z_high : unsigned_abs t.z ≤ unsigned_abs t.weight * 2147483647
