use Rattle.std.proofs.Common.{arith, w32, FitsSigned, pos, ◌-ℤ◌}
use Rattle.std.specs.Int.RustNames.{unsigned_abs}
use Rattle.std.proofs.lemmas.Int.{ints, to_z-of_z}
use Rattle.fixed_math.specs.Sine.{one_less}
use Rattle.fixed_math.proofs.Bounds.{one_less_in_range}
use Rattle.lanes.proofs.sine.one_less.Goals as goal

pub overflow_sub-result : goal.overflow_sub-result
overflow_sub-result c =
    let n_fits : FitsSigned w32 c.args.n = c.ranges.n in
    let p_fits : FitsSigned w32 c.args.p = c.ranges.p in
    let is = simp to_z-of_z at c.part.ensures in
    let bound = one_less_in_range c.args.p (unsigned_abs c.args.n) c.requires.raw (omega (arith, ints)) in
    let bound_2 = rw (← is) at bound in
    let part_fits : FitsSigned w32 c.part.result = omega (arith, ints, bound_2.0, bound_2.1) in
    let whole : FitsSigned w32 (pos 65536 -ℤ c.part.result) = omega (arith, ints, bound_2.0, bound_2.1) in
    simp to_z-of_z whole

pub returns-clause-value : goal.returns-clause-value
unfolding one_less
returns-clause-value c =
    let n_fits : FitsSigned w32 c.args.n = c.ranges.n in
    let p_fits : FitsSigned w32 c.args.p = c.ranges.p in
    let is = simp to_z-of_z at c.part.ensures in
    let bound = one_less_in_range c.args.p (unsigned_abs c.args.n) c.requires.raw (omega (arith, ints)) in
    let bound_2 = rw (← is) at bound in
    let part_fits : FitsSigned w32 c.part.result = omega (arith, ints, bound_2.0, bound_2.1) in
    let whole : FitsSigned w32 (pos 65536 -ℤ c.part.result) = omega (arith, ints, bound_2.0, bound_2.1) in
    simp to_z-of_z (rw is)
