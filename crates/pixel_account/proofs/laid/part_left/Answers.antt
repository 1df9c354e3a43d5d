use Rattle.std.proofs.Common.{arith, w64, FitsSigned}
use Rattle.std.proofs.lemmas.Int.{to_z-of_z, fits_signed_mul}
use Rattle.pixel_account.proofs.laid.part_left.Goals as goal

pub returns : goal.returns
returns c =
    let a_is : FitsSigned w64 c.args.passed = c.ranges.passed in
    let b_is : FitsSigned w64 c.args.left = c.ranges.left in
    let product = fits_signed_mul w64 c.args.passed c.args.left 2147483647 2147549183 c.requires.passed c.requires.left (omega arith) in
    simp to_z-of_z
