use Rattle.std.proofs.Common.{◌≡◌, arith, ◌≤◌, ◌*ℤ◌, w32, w64, FitsSigned}
use lib.Signed.{shr_z}
use Rattle.std.specs.Int.RustNames.{unsigned_abs}
use Rattle.std.proofs.lemmas.Int.{ints, to_z-of_z}
use Rattle.fixed_math.specs.Whole.{floor_by}
use Rattle.fixed_math.proofs.Floor.{shr_is}
use Rattle.number_rows.proofs.Small.{product_small, floor_small, in_range}
use Rattle.number_rows.proofs.dots.small_product.Goals as goal

pub overflow_cast-result-3 : goal.overflow_cast-result-3
overflow_cast-result-3 c =
    let a = c.args.a in
    let b = c.args.b in
    let a_is : FitsSigned w32 a = c.ranges.a in
    let b_is : FitsSigned w32 b = c.ranges.b in
    let a_wide : FitsSigned w64 a = omega (arith, ints, c.requires.a) in
    let b_wide : FitsSigned w64 b = omega (arith, ints, c.requires.b) in
    let product : unsigned_abs (a *ℤ b) ≤ 17592186044416 = product_small a b c.requires.a c.requires.b in
    let product_fits : FitsSigned w64 (a *ℤ b) = omega (arith, ints, product) in
    let shifted : shr_z (a *ℤ b) 65536 ≡ floor_by (a *ℤ b) 65536 = shr_is (a *ℤ b) 65536 in
    let floor : unsigned_abs (floor_by (a *ℤ b) 65536) ≤ 268435456 = floor_small (a *ℤ b) product in
    let floor_wide : FitsSigned w64 (floor_by (a *ℤ b) 65536) = omega (arith, ints, floor) in
    let fits : FitsSigned w32 (floor_by (a *ℤ b) 65536) = omega (arith, ints, floor) in
    simp (to_z-of_z, shifted) fits

pub returns-clause-value : goal.returns-clause-value
returns-clause-value c =
    let a = c.args.a in
    let b = c.args.b in
    let a_is : FitsSigned w32 a = c.ranges.a in
    let b_is : FitsSigned w32 b = c.ranges.b in
    let a_wide : FitsSigned w64 a = omega (arith, ints, c.requires.a) in
    let b_wide : FitsSigned w64 b = omega (arith, ints, c.requires.b) in
    let product : unsigned_abs (a *ℤ b) ≤ 17592186044416 = product_small a b c.requires.a c.requires.b in
    let product_fits : FitsSigned w64 (a *ℤ b) = omega (arith, ints, product) in
    let shifted : shr_z (a *ℤ b) 65536 ≡ floor_by (a *ℤ b) 65536 = shr_is (a *ℤ b) 65536 in
    let floor : unsigned_abs (floor_by (a *ℤ b) 65536) ≤ 268435456 = floor_small (a *ℤ b) product in
    let floor_wide : FitsSigned w64 (floor_by (a *ℤ b) 65536) = omega (arith, ints, floor) in
    let fits : FitsSigned w32 (floor_by (a *ℤ b) 65536) = omega (arith, ints, floor) in
    simp (to_z-of_z, shifted) (in_range (floor_by (a *ℤ b) 65536) (omega (arith, floor)))

pub returns-clause-small : goal.returns-clause-small
returns-clause-small c =
    let a = c.args.a in
    let b = c.args.b in
    let a_is : FitsSigned w32 a = c.ranges.a in
    let b_is : FitsSigned w32 b = c.ranges.b in
    let a_wide : FitsSigned w64 a = omega (arith, ints, c.requires.a) in
    let b_wide : FitsSigned w64 b = omega (arith, ints, c.requires.b) in
    let product : unsigned_abs (a *ℤ b) ≤ 17592186044416 = product_small a b c.requires.a c.requires.b in
    let product_fits : FitsSigned w64 (a *ℤ b) = omega (arith, ints, product) in
    let shifted : shr_z (a *ℤ b) 65536 ≡ floor_by (a *ℤ b) 65536 = shr_is (a *ℤ b) 65536 in
    let floor : unsigned_abs (floor_by (a *ℤ b) 65536) ≤ 268435456 = floor_small (a *ℤ b) product in
    let floor_wide : FitsSigned w64 (floor_by (a *ℤ b) 65536) = omega (arith, ints, floor) in
    let fits : FitsSigned w32 (floor_by (a *ℤ b) 65536) = omega (arith, ints, floor) in
    simp (to_z-of_z, shifted) floor
