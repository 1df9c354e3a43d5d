use Rattle.std.proofs.Common.{arith, ◌≤◌, ◌*◌, ◌*ℤ◌, ◌^◌, w64, FitsSigned}
use Rattle.std.specs.Int.RustNames.{unsigned_abs}
use Rattle.std.proofs.lemmas.Int.{to_z-of_z, fits_signed_mul, unsigned_abs-mul}
use Rattle.std.proofs.Math.Nat.{mul-le-mul}
use Rattle.hider.proofs.weighed.part.Goals as goal

pub returns-clause-value : goal.returns-clause-value
returns-clause-value c =
    let a_is : FitsSigned w64 c.args.area = c.ranges.area in
    let b_is : FitsSigned w64 c.args.depth = c.ranges.depth in
    let product = fits_signed_mul w64 c.args.area c.args.depth 1073741824 2147483647 c.requires.area c.requires.depth (omega arith) in
    simp to_z-of_z

pub returns-clause-bound : goal.returns-clause-bound
returns-clause-bound c =
    let a_is : FitsSigned w64 c.args.area = c.ranges.area in
    let b_is : FitsSigned w64 c.args.depth = c.ranges.depth in
    let product = fits_signed_mul w64 c.args.area c.args.depth 1073741824 2147483647 c.requires.area c.requires.depth (omega arith) in
    let size : unsigned_abs (c.args.area *ℤ c.args.depth) ≤ 1073741824 * 2147483647 = rw (unsigned_abs-mul c.args.area c.args.depth) (mul-le-mul c.requires.area c.requires.depth) in
    let small : unsigned_abs (c.args.area *ℤ c.args.depth) ≤ 2 ^ 61 = omega (arith, size) in
    simp to_z-of_z small
