-- The filters' weights in two steps: a number for each direction, from a table over offsets, and what joins two of them.
use Rattle.std.specs.Prelude.{ℕ, ◌/◌, ◌<◌, ℤ, pos, neg_ℤ, ◌-ℤ◌, ◌≡◌, List, length, get_or}
use Rattle.fixed_math.specs.Fixed.{add, mul, IsRaw}
use Rattle.fixed_math.specs.Power.{exp}
use Rattle.scene.specs.declared.filter.Filter.{Filter}
use Rattle.scene.specs.declared.filter.Filter.TheVariants.{Box, Triangle, Gaussian}
use Rattle.filter_ppm.specs.Weight.{slope, across}

-- the number of the offset d in one direction: a slope, or a square
unfoldable pub part : Filter → ℕ → ℤ → ℤ
part Box w d = pos 65536
part Triangle w d = slope w d
part Gaussian w d = mul (across w d) (across w d)

-- e to the power of -2 times the sum of two squares
abbrev pub power : ℤ → ℤ
power square = exp (mul (neg_ℤ (pos 131072)) square)

-- the weight of two such numbers: their product, or the power of their sum
unfoldable pub joined : Filter → ℤ → ℤ → ℤ
joined Box p q = pos 65536
joined Triangle p q = mul p q
joined Gaussian p q = power (add p q)

-- the numbers of all offsets that count, from half of the width to the left on
pub record IsTable (f : Filter) (w : ℕ) (table : List ℤ) : Type 0 where
  pub long : length table ≡ w
  pub parts : (k : ℕ) → k < w → get_or table k (pos 0) ≡ part f w (pos k -ℤ pos (w / 2))

-- the powers of the sums 0, 1, 2 .. of squares
pub record ArePowers (powers : List ℤ) : Type 0 where
  pub values : (k : ℕ) → k < length powers → get_or powers k (pos 0) ≡ power (pos k)
  pub raws : (k : ℕ) → k < length powers → IsRaw (get_or powers k (pos 0))
