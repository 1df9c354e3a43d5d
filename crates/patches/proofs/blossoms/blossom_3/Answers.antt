use Rattle.std.proofs.Common.{◌∙◌, refl, arith, ◌*◌, ◌^◌}
use Rattle.fixed_math.specs.Blossom.{blossom}
use Rattle.patches.proofs.Fractions.{same_64, same_wide, cast_step, wide_below}
use Rattle.patches.proofs.blossoms.blossom_3.Goals as goal

pub returns-clause-value : goal.returns-clause-value
unfolding blossom
returns-clause-value c f ea eb ec ed =
    let pair = c.blossoms_2-pair in
    let fa = same_64 c.args.a (omega (arith, c.requires.small_a)) ∙ ea in
    let fb = same_64 c.args.b (omega (arith, c.requires.small_b)) ∙ eb in
    let fc = same_64 c.args.c (omega (arith, c.requires.small_c)) ∙ ec in
    let fd = same_64 c.args.d (omega (arith, c.requires.small_d)) ∙ ed in
    let low = pair.ensures.low f fa fb fc in
    let high = pair.ensures.high f fb fc fd in
    let z = cast_step c.args.s.first pair.result.low pair.result.high c.mix.result (2 ^ 55) (omega arith) pair.ensures.low_small pair.ensures.high_small c.mix.ensures.value c.mix.ensures.bound in
    same_wide c.mix.result (omega (arith, z.1)) ∙ z.0 ∙ rw (low, high) refl

pub returns-clause-bound : goal.returns-clause-bound
returns-clause-bound c =
    let pair = c.blossoms_2-pair in
    let z = cast_step c.args.s.first pair.result.low pair.result.high c.mix.result (2 ^ 55) (omega arith) pair.ensures.low_small pair.ensures.high_small c.mix.ensures.value c.mix.ensures.bound in
    wide_below c.mix.result (4096 * 2 ^ 55) _ (omega arith) (omega arith) z.1
