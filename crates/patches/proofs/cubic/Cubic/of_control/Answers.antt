use Rattle.std.proofs.Common.{refl, arith, ◌*◌, ◌^◌}
use Rattle.patches.proofs.Fractions.{minus_step, scaled_step, wide_below}
use Rattle.patches.proofs.Curves.{control_of_steps, control_same, value_of_control, slope_of_control}
use Rattle.patches.proofs.cubic.Cubic.of_control.Goals as goal

pub minus-requires : goal.minus-requires
minus-requires c =
    let x = minus_step c.args.b c.args.a c.minus-first.result (2 ^ 67) (omega arith) c.requires.small_b c.requires.small_a c.minus-first.ensures.value in
    let y = minus_step c.args.c c.args.b c.minus-second.result (2 ^ 67) (omega arith) c.requires.small_c c.requires.small_b c.minus-second.ensures.value in
    let z = minus_step c.args.d c.args.c c.minus-third.result (2 ^ 67) (omega arith) c.requires.small_d c.requires.small_c c.minus-third.ensures.value in
    let v = minus_step c.minus-second.result c.minus-first.result c.minus-bend.result (2 ^ 68) (omega arith) (omega (arith, y.1)) (omega (arith, x.1)) c.minus-bend.ensures.value in
    let w = minus_step c.minus-third.result c.minus-second.result c.minus-next.result (2 ^ 68) (omega arith) (omega (arith, z.1)) (omega (arith, y.1)) c.minus-next.ensures.value in
    let p = wide_below c.minus-bend.result (2 * 2 ^ 68) (2 ^ 69) (omega arith) (omega arith) v.1 in
    let q = wide_below c.minus-next.result (2 * 2 ^ 68) (2 ^ 69) (omega arith) (omega arith) w.1 in
    omega (arith, p, q)

pub invariant_of-result : goal.invariant_of-result
invariant_of-result c =
    let x = minus_step c.args.b c.args.a c.minus-first.result (2 ^ 67) (omega arith) c.requires.small_b c.requires.small_a c.minus-first.ensures.value in
    let y = minus_step c.args.c c.args.b c.minus-second.result (2 ^ 67) (omega arith) c.requires.small_c c.requires.small_b c.minus-second.ensures.value in
    let z = minus_step c.args.d c.args.c c.minus-third.result (2 ^ 67) (omega arith) c.requires.small_d c.requires.small_c c.minus-third.ensures.value in
    let v = minus_step c.minus-second.result c.minus-first.result c.minus-bend.result (2 ^ 68) (omega arith) (omega (arith, y.1)) (omega (arith, x.1)) c.minus-bend.ensures.value in
    let w = minus_step c.minus-third.result c.minus-second.result c.minus-next.result (2 ^ 68) (omega arith) (omega (arith, z.1)) (omega (arith, y.1)) c.minus-next.ensures.value in
    let u = minus_step c.minus-next.result c.minus-bend.result c.minus.result (2 ^ 69) (omega arith) (omega (arith, w.1)) (omega (arith, v.1)) c.minus.ensures.value in
    let i = scaled_step (2 ^ 36) c.args.a c.scaled.result (2 ^ 67) (2 ^ 108) (omega arith) c.requires.small_a (omega arith) c.scaled.ensures.value in
    let j = scaled_step (3 * 2 ^ 24) c.minus-first.result c.scaled-2.result (2 ^ 68) (2 ^ 96) (omega arith) (omega (arith, x.1)) (omega arith) c.scaled-2.ensures.value in
    let k = scaled_step (3 * 2 ^ 12) c.minus-bend.result c.scaled-3.result (2 ^ 69) (2 ^ 84) (omega arith) (omega (arith, v.1)) (omega arith) c.scaled-3.ensures.value in
    record {
      constant_small = wide_below c.scaled.result (2 ^ 108) (2 ^ 108) (omega arith) (omega arith) i.1;
      linear_small = wide_below c.scaled-2.result (2 ^ 96) (2 ^ 96) (omega arith) (omega arith) j.1;
      square_small = wide_below c.scaled-3.result (2 ^ 84) (2 ^ 84) (omega arith) (omega arith) k.1;
      cube_small = wide_below c.minus.result (2 * 2 ^ 69) (2 ^ 72) (omega arith) (omega arith) u.1;
    }

pub returns-clause-value : goal.returns-clause-value
returns-clause-value c f ea eb ec ed u h =
    let told = control_of_steps _ c.args.a c.args.b c.args.c c.args.d c.minus-first.result c.minus-second.result c.minus-third.result c.minus-bend.result c.minus-next.result
    c.scaled.result c.scaled-2.result c.scaled-3.result c.minus.result c.requires.small_a c.requires.small_b c.requires.small_c c.requires.small_d
    c.minus-first.ensures.value c.minus-second.ensures.value c.minus-third.ensures.value c.minus-bend.ensures.value c.minus-next.ensures.value
    c.scaled.ensures.value c.scaled-2.ensures.value c.scaled-3.ensures.value c.minus.ensures.value refl refl refl refl in
    value_of_control _ f u (control_same _ _ _ _ _ _ _ _ _ ea eb ec ed told) h

pub returns-clause-slope : goal.returns-clause-slope
returns-clause-slope c f ea eb ec ed u h =
    let told = control_of_steps _ c.args.a c.args.b c.args.c c.args.d c.minus-first.result c.minus-second.result c.minus-third.result c.minus-bend.result c.minus-next.result
    c.scaled.result c.scaled-2.result c.scaled-3.result c.minus.result c.requires.small_a c.requires.small_b c.requires.small_c c.requires.small_d
    c.minus-first.ensures.value c.minus-second.ensures.value c.minus-third.ensures.value c.minus-bend.ensures.value c.minus-next.ensures.value
    c.scaled.ensures.value c.scaled-2.ensures.value c.scaled-3.ensures.value c.minus.ensures.value refl refl refl refl in
    slope_of_control _ f u (control_same _ _ _ _ _ _ _ _ _ ea eb ec ed told) h
