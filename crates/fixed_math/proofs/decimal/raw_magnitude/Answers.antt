use Rattle.std.proofs.Common.{rules, arith, w32, FitsSigned}
use Rattle.std.proofs.lemmas.Int.{ints, to_z-of_z}
use Rattle.fixed_math.proofs.Decimals.{none_digits, large_exponent, whole_is, small_exponent, fraction_is}
use Rattle.fixed_math.proofs.decimal.raw_magnitude.Goals as goal

pub returns-then-digits-eq0-clause-value : goal.returns-then-digits-eq0-clause-value
returns-then-digits-eq0-clause-value c = rw (none_digits c.args.digits c.args.exponent (search rules))

pub returns-then-exponent-ge5-clause-value : goal.returns-then-exponent-ge5-clause-value
returns-then-exponent-ge5-clause-value c =
    omega (arith, large_exponent c.args.digits c.args.exponent (omega arith) (omega (arith, ints)))

pub returns-then-exponent-ge0-clause-value : goal.returns-then-exponent-ge0-clause-value
returns-then-exponent-ge0-clause-value c =
    let is = whole_is c.args.digits c.args.exponent (omega (arith, ints)) in
    let fits : FitsSigned w32 c.args.exponent = c.ranges.exponent in
    let same = simp to_z-of_z at c.enlarged.ensures.value in
    rw (is, same)

pub returns-then-exponent-ltminus24-clause-value :
    goal.returns-then-exponent-ltminus24-clause-value
returns-then-exponent-ltminus24-clause-value c =
    rw (small_exponent c.args.digits c.args.exponent (omega arith) (omega (arith, ints)))

pub returns-else-exponent-ltminus24-clause-value :
    goal.returns-else-exponent-ltminus24-clause-value
returns-else-exponent-ltminus24-clause-value c =
    let is = fraction_is c.args.digits c.args.exponent (omega (arith, ints)) in
    let fits : FitsSigned w32 c.args.exponent = c.ranges.exponent in
    let size = simp to_z-of_z at c.unsigned_abs.ensures.value in
    let same = rw size at c.divided.ensures.value in
    rw (is, same)
