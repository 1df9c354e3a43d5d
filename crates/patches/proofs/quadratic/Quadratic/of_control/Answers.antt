use Rattle.std.proofs.Common.{refl, arith, ◌*◌, ◌^◌}
use Rattle.patches.proofs.Fractions.{minus_step, scaled_step, wide_below}
use Rattle.patches.proofs.Rationals.{control_of_steps, control_same, value_of_control}
use Rattle.patches.proofs.quadratic.Quadratic.of_control.Goals as goal

pub invariant_of-result : goal.invariant_of-result
invariant_of-result c =
    let x = minus_step c.args.b c.args.a c.minus-first.result (2 ^ 86) (omega arith) c.requires.small_b c.requires.small_a c.minus-first.ensures.value in
    let y = minus_step c.args.c c.args.b c.minus-second.result (2 ^ 86) (omega arith) c.requires.small_c c.requires.small_b c.minus-second.ensures.value in
    let z = minus_step c.minus-second.result c.minus-first.result c.minus.result (2 ^ 87) (omega arith) (omega (arith, y.1)) (omega (arith, x.1)) c.minus.ensures.value in
    let i = scaled_step (2 ^ 24) c.args.a c.scaled.result (2 ^ 86) (2 ^ 110) (omega arith) c.requires.small_a (omega arith) c.scaled.ensures.value in
    let j = scaled_step (2 ^ 13) c.minus-first.result c.scaled-2.result (2 ^ 87) (2 ^ 100) (omega arith) (omega (arith, x.1)) (omega arith) c.scaled-2.ensures.value in
    record {
      constant_small = wide_below c.scaled.result (2 ^ 110) (2 ^ 110) (omega arith) (omega arith) i.1;
      linear_small = wide_below c.scaled-2.result (2 ^ 100) (2 ^ 104) (omega arith) (omega arith) j.1;
      square_small = wide_below c.minus.result (2 * 2 ^ 87) (2 ^ 92) (omega arith) (omega arith) z.1;
    }

pub returns : goal.returns
returns c f ea eb ec u h =
    let told = control_of_steps _ c.args.a c.args.b c.args.c c.minus-first.result c.minus-second.result c.scaled.result c.scaled-2.result c.minus.result
    c.requires.small_a c.requires.small_b c.requires.small_c c.minus-first.ensures.value c.minus-second.ensures.value c.scaled.ensures.value c.scaled-2.ensures.value c.minus.ensures.value refl refl refl in
    value_of_control _ f u (control_same _ _ _ _ _ _ _ ea eb ec told) h
