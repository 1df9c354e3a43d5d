use Rattle.std.proofs.Common.{ap, ◌∙◌, arith, ◌≤◌, w32, w64, FitsSigned}
use Rattle.std.specs.Int.RustNames.{unsigned_abs}
use Rattle.std.proofs.lemmas.Int.{to_z-of_z, ints}
use Rattle.fixed_math.specs.Fixed.{sat}
use Rattle.fixed_math.specs.Whole.{floor_by}
use Rattle.lanes.proofs.raw.mul.Goals as goal

pub cut-requires : goal.cut-requires
cut-requires c =
    let small : unsigned_abs c.product.result ≤ 4611686018427387904 = c.product.ensures.small in
    let fits : FitsSigned w64 c.product.result = omega (arith, ints, small) in
    simp to_z-of_z small

pub returns-clause-value : goal.returns-clause-value
returns-clause-value c =
    let small : unsigned_abs c.product.result ≤ 4611686018427387904 = c.product.ensures.small in
    let fits : FitsSigned w64 c.product.result = omega (arith, ints, small) in
    let a_is : FitsSigned w32 c.args.a = c.ranges.a in
    let b_is : FitsSigned w32 c.args.b = c.ranges.b in
    let cut_fits : FitsSigned w32 c.cut.result = omega (arith, ints, c.cut.ensures.raw.0, c.cut.ensures.raw.1) in
    let is = simp to_z-of_z at c.cut.ensures.value in
    let value = simp to_z-of_z at c.product.ensures.value in
    simp to_z-of_z (is ∙ ap (λ p. sat (floor_by p 65536)) value)
