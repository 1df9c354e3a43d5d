use Rattle.std.proofs.Common.{◌∙◌, ap, refl, arith, pos, ◌*ℤ◌, ◌*◌, ◌^◌}
use Rattle.patches.proofs.Fractions.{same_wide, minus_step, scaled_step}
use Rattle.patches.proofs.Curves.{value_of_ends, slope_of_ends}
use Rattle.patches.proofs.cubic.Cubic.of_ends.Goals as goal

pub returns-clause-value : goal.returns-clause-value
returns-clause-value c u h =
    let step = minus_step c.args.b c.args.a c.minus-step.result (2 ^ 44) (omega arith) c.requires.small_b c.requires.small_a c.minus-step.ensures.value in
    let constant = scaled_step (2 ^ 60) c.args.a c.scaled.result (2 ^ 44) (2 ^ 104) (omega arith) c.requires.small_a (omega arith) c.scaled.ensures.value in
    let linear = scaled_step (2 ^ 48) c.minus-step.result c.scaled-2.result (2 * 2 ^ 44) (2 ^ 93) (omega arith) step.1 (omega arith) c.scaled-2.ensures.value in
    value_of_ends _ c.args.a c.args.b u (same_wide c.scaled.result (omega (arith, constant.1)) ∙ constant.0)
    (same_wide c.scaled-2.result (omega (arith, linear.1)) ∙ linear.0 ∙ ap (λ z. pos (2 ^ 48) *ℤ z) step.0) refl refl h

pub returns-clause-slope : goal.returns-clause-slope
returns-clause-slope c u =
    let step = minus_step c.args.b c.args.a c.minus-step.result (2 ^ 44) (omega arith) c.requires.small_b c.requires.small_a c.minus-step.ensures.value in
    let linear = scaled_step (2 ^ 48) c.minus-step.result c.scaled-2.result (2 * 2 ^ 44) (2 ^ 93) (omega arith) step.1 (omega arith) c.scaled-2.ensures.value in
    slope_of_ends _ c.args.a c.args.b u
    (same_wide c.scaled-2.result (omega (arith, linear.1)) ∙ linear.0 ∙ ap (λ z. pos (2 ^ 48) *ℤ z) step.0) refl refl
