use Rattle.std.proofs.Common.{arith, ◌*◌, ◌^◌}
use Rattle.patches.proofs.Fractions.{minus_step, scaled_step, wide_below}
use Rattle.patches.proofs.Rationals.{turn_of_steps, turn_same, value_of_turn, turn_size}
use Rattle.patches.proofs.quadratic.Quadratic.of_turn.Goals as goal

pub invariant_of-result : goal.invariant_of-result
invariant_of-result c =
    let x = minus_step c.args.b c.args.a c.minus-first.result (2 ^ 58) (omega arith) c.requires.small_b c.requires.small_a c.minus-first.ensures.value in
    let y = minus_step c.args.c c.args.b c.minus-second.result (2 ^ 58) (omega arith) c.requires.small_c c.requires.small_b c.minus-second.ensures.value in
    let z = minus_step c.minus-second.result c.minus-first.result c.minus-bend.result (2 ^ 59) (omega arith) (omega (arith, y.1)) (omega (arith, x.1)) c.minus-bend.ensures.value in
    let w = minus_step c.minus-bend.result c.args.a c.minus-lean.result (2 ^ 60) (omega arith) (omega (arith, z.1)) (omega (arith, c.requires.small_a)) c.minus-lean.ensures.value in
    let v = minus_step c.args.a c.args.b c.minus-back.result (2 ^ 58) (omega arith) c.requires.small_a c.requires.small_b c.minus-back.ensures.value in
    let i = scaled_step (2 ^ 49) c.minus-first.result c.scaled.result (2 ^ 59) (2 ^ 108) (omega arith) (omega (arith, x.1)) (omega arith) c.scaled.ensures.value in
    let j = scaled_step (2 ^ 37) c.minus-lean.result c.scaled-2.result (2 ^ 61) (2 ^ 98) (omega arith) (omega (arith, w.1)) (omega arith) c.scaled-2.ensures.value in
    let o = scaled_step (2 ^ 25) c.minus-back.result c.scaled-3.result (2 ^ 59) (2 ^ 84) (omega arith) (omega (arith, v.1)) (omega arith) c.scaled-3.ensures.value in
    record {
      constant_small = wide_below c.scaled.result (2 ^ 108) (2 ^ 110) (omega arith) (omega arith) i.1;
      linear_small = wide_below c.scaled-2.result (2 ^ 98) (2 ^ 104) (omega arith) (omega arith) j.1;
      square_small = wide_below c.scaled-3.result (2 ^ 84) (2 ^ 92) (omega arith) (omega arith) o.1;
    }

pub returns-clause-value : goal.returns-clause-value
returns-clause-value c f ea eb ec u =
    let told = turn_of_steps c.args.a c.args.b c.args.c c.minus-first.result c.minus-second.result c.minus-bend.result c.minus-lean.result c.minus-back.result
    c.scaled.result c.scaled-2.result c.scaled-3.result c.requires.small_a c.requires.small_b c.requires.small_c
    c.minus-first.ensures.value c.minus-second.ensures.value c.minus-bend.ensures.value c.minus-lean.ensures.value c.minus-back.ensures.value
    c.scaled.ensures.value c.scaled-2.ensures.value c.scaled-3.ensures.value in
    value_of_turn _ f u (turn_same _ _ _ _ _ _ _ _ _ ea eb ec told)

pub returns-clause-size : goal.returns-clause-size
returns-clause-size c r ha hb hc =
    let told = turn_of_steps c.args.a c.args.b c.args.c c.minus-first.result c.minus-second.result c.minus-bend.result c.minus-lean.result c.minus-back.result
    c.scaled.result c.scaled-2.result c.scaled-3.result c.requires.small_a c.requires.small_b c.requires.small_c
    c.minus-first.ensures.value c.minus-second.ensures.value c.minus-bend.ensures.value c.minus-lean.ensures.value c.minus-back.ensures.value
    c.scaled.ensures.value c.scaled-2.ensures.value c.scaled-3.ensures.value in
    turn_size _ _ _ c.args.a c.args.b c.args.c r told ha hb hc
