use Rattle.std.proofs.Common.{arith, ap, ◌∙◌, pos, ◌+ℤ◌, ◌-ℤ◌, w32, FitsSigned}
use Rattle.std.specs.Int.{w128}
use Rattle.std.proofs.lemmas.Int.{ints, to_z-of_z}
use Rattle.fixed_math.specs.Digits.{value_of}
use Rattle.fixed_math.specs.DecimalText.{cut}
use Rattle.fixed_math.proofs.DecimalTexts.{capped_exponent}
use Rattle.fixed_math.proofs.decimal_text.decimal_exponent.Goals as goal

pub returns : goal.returns
returns c =
    let cut_fits : FitsSigned w32 c.cut.result = omega (arith, ints) in
    let balance_fits : FitsSigned w128 c.balance.result = omega (arith, ints) in
    let capped_fits : FitsSigned w128 c.capped.result = omega (arith, ints) in
    let field = simp to_z-of_z at c.cut.ensures in
    let sum = simp to_z-of_z at c.balance.ensures in
    simp to_z-of_z
    (field ∙ ap cut (sum ∙ ap (λ z. (z +ℤ pos c.args.dropped) -ℤ pos c.args.places) c.capped.ensures.value)
    ∙ capped_exponent c.args.negative (value_of c.args.digits.now) c.args.dropped c.args.places (omega (arith, c.ranges.dropped)) (omega (arith, c.ranges.places)))
