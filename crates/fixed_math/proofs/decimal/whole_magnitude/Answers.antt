use Rattle.std.proofs.Common.{rules, arith, w32, FitsSigned}
use Rattle.std.proofs.lemmas.Int.{ints, to_z-of_z}
use Rattle.fixed_math.proofs.Decimals.{none_whole, great_whole, multiple_is, small_whole, quotient_is}
use Rattle.fixed_math.proofs.decimal.whole_magnitude.Goals as goal

pub returns-then-digits-eq0-clause-value : goal.returns-then-digits-eq0-clause-value
returns-then-digits-eq0-clause-value c = rw (none_whole c.args.digits c.args.exponent (search rules))

pub returns-then-exponent-ge10-clause-value : goal.returns-then-exponent-ge10-clause-value
returns-then-exponent-ge10-clause-value c =
    rw (great_whole c.args.digits c.args.exponent (omega arith) (omega (arith, ints)))

pub returns-then-exponent-ge0-clause-value : goal.returns-then-exponent-ge0-clause-value
returns-then-exponent-ge0-clause-value c =
    let is = multiple_is c.args.digits c.args.exponent (omega (arith, ints)) in
    let fits : FitsSigned w32 c.args.exponent = c.ranges.exponent in
    let power = simp to_z-of_z at c.ten_to.ensures.value in
    let same = rw power at c.limited.ensures.value in
    rw is same

pub returns-then-exponent-ltminus19-clause-value :
    goal.returns-then-exponent-ltminus19-clause-value
returns-then-exponent-ltminus19-clause-value c =
    rw (small_whole c.args.digits c.args.exponent (omega arith) (omega arith) (omega (arith, ints)))

pub returns-else-exponent-ltminus19-clause-value :
    goal.returns-else-exponent-ltminus19-clause-value
returns-else-exponent-ltminus19-clause-value c =
    let is = quotient_is c.args.digits c.args.exponent (omega (arith, ints)) in
    let fits : FitsSigned w32 c.args.exponent = c.ranges.exponent in
    let size = simp to_z-of_z at c.unsigned_abs.ensures.value in
    let same = rw size at c.whole_quotient.ensures.value in
    rw (is, same)
