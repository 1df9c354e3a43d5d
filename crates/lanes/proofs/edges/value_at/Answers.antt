use Rattle.std.proofs.Common.{arith, w32, w64, FitsSigned, ◌-ℤ◌}
use Rattle.std.proofs.lemmas.Int.{ints, to_z-of_z}
use Rattle.lanes.specs.Edges.{value_at}
use Rattle.lanes.proofs.edges.value_at.Goals as goal

pub overflow_sub-result : goal.overflow_sub-result
overflow_sub-result c =
    let p : FitsSigned w64 c.product-first.result = omega (arith, ints, c.product-first.ensures.bound) in
    let q : FitsSigned w64 c.product-second.result = omega (arith, ints, c.product-second.ensures.bound) in
    let whole : FitsSigned w64 (c.product-first.result -ℤ c.product-second.result) = omega (arith, ints, c.product-first.ensures.bound, c.product-second.ensures.bound) in
    simp to_z-of_z whole

pub returns-clause-value : goal.returns-clause-value
unfolding value_at
returns-clause-value c =
    let ax : FitsSigned w32 c.args.ax = c.ranges.ax in
    let ay : FitsSigned w32 c.args.ay = c.ranges.ay in
    let x : FitsSigned w32 c.args.x = c.ranges.x in
    let y : FitsSigned w32 c.args.y = c.ranges.y in
    let dx : FitsSigned w64 c.args.dx = c.ranges.dx in
    let dy : FitsSigned w64 c.args.dy = c.ranges.dy in
    let d : FitsSigned w64 c.difference.result = omega (arith, ints, c.difference.ensures.bound) in
    let e : FitsSigned w64 c.difference-2.result = omega (arith, ints, c.difference-2.ensures.bound) in
    let p : FitsSigned w64 c.product-first.result = omega (arith, ints, c.product-first.ensures.bound) in
    let q : FitsSigned w64 c.product-second.result = omega (arith, ints, c.product-second.ensures.bound) in
    let whole : FitsSigned w64 (c.product-first.result -ℤ c.product-second.result) = omega (arith, ints, c.product-first.ensures.bound, c.product-second.ensures.bound) in
    let d_is = simp to_z-of_z at c.difference.ensures.value in
    let e_is = simp to_z-of_z at c.difference-2.ensures.value in
    let p_is = simp to_z-of_z at c.product-first.ensures.value in
    let q_is = simp to_z-of_z at c.product-second.ensures.value in
    simp to_z-of_z (rw (p_is, q_is, d_is, e_is))

pub returns-clause-bound : goal.returns-clause-bound
returns-clause-bound c =
    let p : FitsSigned w64 c.product-first.result = omega (arith, ints, c.product-first.ensures.bound) in
    let q : FitsSigned w64 c.product-second.result = omega (arith, ints, c.product-second.ensures.bound) in
    let whole : FitsSigned w64 (c.product-first.result -ℤ c.product-second.result) = omega (arith, ints, c.product-first.ensures.bound, c.product-second.ensures.bound) in
    simp to_z-of_z (omega (arith, ints, c.product-first.ensures.bound, c.product-second.ensures.bound))
