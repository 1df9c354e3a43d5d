use Rattle.std.proofs.Common.{arith, ◌∙◌, w32, FitsSigned}
use Rattle.std.proofs.lemmas.Int.{ints, to_z_pos, to_z-of_z}
use Rattle.lanes.proofs.Roots.{sqrt_of_above}
use Rattle.lanes.proofs.root.sqrt.Goals as goal

pub overflow_cast-result : goal.overflow_cast-result
overflow_cast-result c =
    let a_is : FitsSigned w32 c.args.a = c.ranges.a in
    let v = simp to_z-of_z at c.above.ensures.value in
    let root = sqrt_of_above c.args.a c.above.result c.isqrt.result v c.above.ensures.bound c.isqrt.ensures.value in
    omega (arith, ints, root.1)

pub returns-clause-value : goal.returns-clause-value
returns-clause-value c =
    let a_is : FitsSigned w32 c.args.a = c.ranges.a in
    let v = simp to_z-of_z at c.above.ensures.value in
    let root = sqrt_of_above c.args.a c.above.result c.isqrt.result v c.above.ensures.bound c.isqrt.ensures.value in
    let small = root.1 in
    to_z_pos w32 c.isqrt.result (omega arith) ∙ root.0

pub returns-clause-raw : goal.returns-clause-raw
returns-clause-raw c =
    let a_is : FitsSigned w32 c.args.a = c.ranges.a in
    let v = simp to_z-of_z at c.above.ensures.value in
    let root = sqrt_of_above c.args.a c.above.result c.isqrt.result v c.above.ensures.bound c.isqrt.ensures.value in
    let small = root.1 in
    (omega (arith, ints), omega (arith, ints))
