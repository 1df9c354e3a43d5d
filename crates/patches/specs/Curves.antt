-- Isoparametric curves: a surface at one v, by polynomials of u over the denominator or by quotients of polynomials.
use Rattle.std.specs.Prelude.{ℕ, ◌*◌, ◌^◌, ◌≤◌, ◌≡◌, ℤ, pos, ◌+ℤ◌, ◌*ℤ◌, List}
use Rattle.fixed_math.specs.declared.vec3.Vec3.{Vec3}
use Rattle.fixed_math.specs.declared.vec3.Axis.{Axis}
use Rattle.fixed_math.specs.declared.vec3.Axis.TheVariants.{X, Y, Z}
use Rattle.fixed_math.specs.Axes.{by_axes}
use Rattle.fixed_math.specs.Blossom.{denominator}
use Rattle.fixed_math.specs.Fixed.{sat}
use Rattle.fixed_math.specs.Whole.{floor_by}
use Rattle.patches.specs.declared.cubic.Cubic.{Cubic}
use Rattle.patches.specs.declared.curve.Coordinate.{Coordinate}
use Rattle.patches.specs.declared.curve.PolynomialCurve.{PolynomialCurve}
use Rattle.patches.specs.declared.curve.Curve.{Curve}
use Rattle.patches.specs.declared.curve.Curve.TheVariants.{Polynomial, Rational}
use Rattle.patches.specs.Boxes.{IsWithin}
use Rattle.patches.specs.RationalCurves.{rational_along, rational_place, rational_across, rational_up}
use Rattle.patches.specs.Slopes.{triple, AreBelow}

-- a polynomial and its derivative
unfoldable pub value_at : Cubic → ℕ → ℤ
value_at c u = c.constant +ℤ (pos u *ℤ c.linear +ℤ (pos (u * u) *ℤ c.square +ℤ pos (u * u * u) *ℤ c.cube))

-- the derivative of a polynomial of u
unfoldable pub slope_at : Cubic → ℕ → ℤ
slope_at c u = c.linear +ℤ (pos (2 * u) *ℤ c.square +ℤ pos (3 * (u * u)) *ℤ c.cube)

-- a coordinate of the point and of both derivatives: each one floor of one exact fraction
abbrev pub place_at : Coordinate → ℕ → ℤ
place_at c u = sat (floor_by (value_at c.place u) (denominator ^ 6))

-- a coordinate of the derivative along u, rounded down once
abbrev pub across_at : Coordinate → ℕ → ℤ
across_at c u = floor_by (slope_at c.place u) (denominator ^ 5)

-- a coordinate of the derivative along v, rounded down once
abbrev pub up_at : Coordinate → ℕ → ℤ
up_at c u = floor_by (value_at c.rise u) (denominator ^ 5)

abbrev pub along : Axis → PolynomialCurve → Coordinate
along X c = c.x
along Y c = c.y
along Z c = c.z

-- the point of a curve at u
abbrev pub curve_point : Curve → ℕ → Vec3
curve_point (Polynomial c) u = by_axes (λ a. place_at (along a c) u)
curve_point (Rational c) u = by_axes (λ a. rational_place c.under (rational_along a c) u)

-- the derivative along u there
abbrev pub curve_du : Curve → ℕ → List ℤ
curve_du (Polynomial c) u = triple (λ a. across_at (along a c) u)
curve_du (Rational c) u = triple (λ a. rational_across c.across_under (rational_along a c) u)

-- the derivative along v there
abbrev pub curve_dv : Curve → ℕ → List ℤ
curve_dv (Polynomial c) u = triple (λ a. up_at (along a c) u)
curve_dv (Rational c) u = triple (λ a. rational_up c.up_under (rational_along a c) u)

-- the curve has these points and derivatives, of which none is large
pub record IsCurve (c : Curve) (point : ℕ → Vec3) (du dv : ℕ → List ℤ) : Type 0 where
  pub points : (u : ℕ) → u ≤ denominator → curve_point c u ≡ point u
  pub points_small : (u : ℕ) → u ≤ denominator → IsWithin (2 ^ 30) (point u)
  pub across : (u : ℕ) → u ≤ denominator → curve_du c u ≡ du u
  pub across_small : (u : ℕ) → u ≤ denominator → AreBelow (2 ^ 40) (du u)
  pub up : (u : ℕ) → u ≤ denominator → curve_dv c u ≡ dv u
  pub up_small : (u : ℕ) → u ≤ denominator → AreBelow (2 ^ 40) (dv u)
