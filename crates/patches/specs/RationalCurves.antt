-- Isoparametric curves of rational surfaces whose rows are quarters of circles: at one v, each coordinate is a quotient of two
-- polynomials of u of degree 2, and so are its derivatives but for the denominators' powers.
use Rattle.std.specs.Prelude.{ℕ, ◌+◌, ◌*◌, ◌^◌, ℤ, pos, ◌+ℤ◌, ◌-ℤ◌, ◌*ℤ◌, unsigned_abs}
use Rattle.fixed_math.specs.declared.vec3.Axis.{Axis}
use Rattle.fixed_math.specs.declared.vec3.Axis.TheVariants.{X, Y, Z}
use Rattle.fixed_math.specs.Fixed.{sat}
use Rattle.fixed_math.specs.Whole.{floor_by}
use Rattle.patches.specs.declared.quadratic.Quadratic.{Quadratic}
use Rattle.patches.specs.declared.quadratic.RationalCoordinate.{RationalCoordinate}
use Rattle.patches.specs.declared.quadratic.RationalCurve.{RationalCurve}

-- a polynomial of u
unfoldable pub quadratic_at : Quadratic → ℕ → ℤ
quadratic_at q u = q.constant +ℤ (pos u *ℤ q.linear +ℤ pos (u * u) *ℤ q.square)

-- what no value of it passes
abbrev pub size_of : Quadratic → ℕ
size_of q = unsigned_abs q.constant + 4096 * unsigned_abs q.linear + 16777216 * unsigned_abs q.square

-- with N the polynomial of the control numbers f 0, f 1, f 2 and D the denominator of a quarter of a circle: N' D - N D', which is of
-- degree 2, times 4096 twice
unfoldable pub turn_at : ℕ → (ℕ → ℤ) → ℤ
turn_at u f = pos 2 *ℤ ((pos 16777216 *ℤ (f 1 -ℤ f 0) +ℤ pos (4096 * u) *ℤ (((f 2 -ℤ f 1) -ℤ (f 1 -ℤ f 0)) -ℤ f 0)) -ℤ pos (u * u) *ℤ (f 1 -ℤ f 0))

-- the denominator of a quarter of a circle at u, times 4096 twice
abbrev pub factor_at : ℕ → ℕ
factor_at u = 16777216 + u * u

abbrev pub rational_along : Axis → RationalCurve → RationalCoordinate
rational_along X c = c.x
rational_along Y c = c.y
rational_along Z c = c.z

-- a coordinate of the point and of both derivatives: each one floor of one exact fraction, whose denominator has the factor d
abbrev pub rational_place : ℕ → RationalCoordinate → ℕ → ℤ
rational_place d c u = sat (floor_by (quadratic_at c.place u) (factor_at u * d))

-- a coordinate of the derivative along u
abbrev pub rational_across : ℕ → RationalCoordinate → ℕ → ℤ
rational_across d c u = floor_by (quadratic_at c.across u) (factor_at u * factor_at u * d)

-- a coordinate of the derivative along v
abbrev pub rational_up : ℕ → RationalCoordinate → ℕ → ℤ
rational_up d c u = floor_by (quadratic_at c.up u) (factor_at u * d)
