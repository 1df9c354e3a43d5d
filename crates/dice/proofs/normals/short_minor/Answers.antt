use Rattle.std.proofs.Common.{arith, w64, FitsSigned, ◌*ℤ◌, ◌-ℤ◌}
use Rattle.std.proofs.lemmas.Int.{ints, to_z-of_z, fits_signed_mul}
use Rattle.dice.proofs.Directions.{short_product}
use Rattle.dice.proofs.normals.short_minor.Goals as goal

pub overflow_sub-result : goal.overflow_sub-result
overflow_sub-result c =
    let a = c.args.a in
    let b = c.args.b in
    let e = c.args.c in
    let d = c.args.d in
    let fits_a : FitsSigned w64 a = c.ranges.a in
    let fits_b : FitsSigned w64 b = c.ranges.b in
    let fits_c : FitsSigned w64 e = c.ranges.c in
    let fits_d : FitsSigned w64 d = c.ranges.d in
    let first = fits_signed_mul w64 a d 4194304 4194304 c.requires.small_a c.requires.small_d (omega arith) in
    let second = fits_signed_mul w64 b e 4194304 4194304 c.requires.small_b c.requires.small_c (omega arith) in
    let first_small = short_product a d c.requires.small_a c.requires.small_d in
    let second_small = short_product b e c.requires.small_b c.requires.small_c in
    let whole : FitsSigned w64 (a *ℤ d -ℤ b *ℤ e) = omega (arith, ints, first_small, second_small) in
    simp to_z-of_z whole

pub returns-clause-value : goal.returns-clause-value
returns-clause-value c =
    let a = c.args.a in
    let b = c.args.b in
    let e = c.args.c in
    let d = c.args.d in
    let fits_a : FitsSigned w64 a = c.ranges.a in
    let fits_b : FitsSigned w64 b = c.ranges.b in
    let fits_c : FitsSigned w64 e = c.ranges.c in
    let fits_d : FitsSigned w64 d = c.ranges.d in
    let first = fits_signed_mul w64 a d 4194304 4194304 c.requires.small_a c.requires.small_d (omega arith) in
    let second = fits_signed_mul w64 b e 4194304 4194304 c.requires.small_b c.requires.small_c (omega arith) in
    let first_small = short_product a d c.requires.small_a c.requires.small_d in
    let second_small = short_product b e c.requires.small_b c.requires.small_c in
    let whole : FitsSigned w64 (a *ℤ d -ℤ b *ℤ e) = omega (arith, ints, first_small, second_small) in
    simp to_z-of_z

pub returns-clause-bound : goal.returns-clause-bound
returns-clause-bound c =
    let a = c.args.a in
    let b = c.args.b in
    let e = c.args.c in
    let d = c.args.d in
    let fits_a : FitsSigned w64 a = c.ranges.a in
    let fits_b : FitsSigned w64 b = c.ranges.b in
    let fits_c : FitsSigned w64 e = c.ranges.c in
    let fits_d : FitsSigned w64 d = c.ranges.d in
    let first = fits_signed_mul w64 a d 4194304 4194304 c.requires.small_a c.requires.small_d (omega arith) in
    let second = fits_signed_mul w64 b e 4194304 4194304 c.requires.small_b c.requires.small_c (omega arith) in
    let first_small = short_product a d c.requires.small_a c.requires.small_d in
    let second_small = short_product b e c.requires.small_b c.requires.small_c in
    let whole : FitsSigned w64 (a *ℤ d -ℤ b *ℤ e) = omega (arith, ints, first_small, second_small) in
    simp to_z-of_z (omega (arith, ints, first_small, second_small))
