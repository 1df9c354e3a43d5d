use Rattle.std.proofs.Common.{◌∙◌, refl, arith, ◌^◌}
use Rattle.fixed_math.specs.Blossom.{blossom}
use Rattle.patches.proofs.Fractions.{same_wide, wide_step}
use Rattle.patches.proofs.blossoms.ends_of.Goals as goal

pub returns-clause-first : goal.returns-clause-first
unfolding blossom
returns-clause-first c f ea eb ec ed =
    let fa = same_wide c.args.a (omega (arith, c.requires.small_a)) ∙ ea in
    let fb = same_wide c.args.b (omega (arith, c.requires.small_b)) ∙ eb in
    let fc = same_wide c.args.c (omega (arith, c.requires.small_c)) ∙ ec in
    let fd = same_wide c.args.d (omega (arith, c.requires.small_d)) ∙ ed in
    let pair = c.wide_2-lows in
    let z = wide_step c.args.span.low pair.result.low pair.result.high c.mix.result (2 ^ 91) (omega arith) pair.ensures.low_small pair.ensures.high_small c.mix.ensures.value c.mix.ensures.bound in
    same_wide c.mix.result (omega (arith, z.1)) ∙ z.0 ∙ rw (pair.ensures.low f fa fb fc, pair.ensures.high f fb fc fd) refl

pub returns-clause-second : goal.returns-clause-second
unfolding blossom
returns-clause-second c f ea eb ec ed =
    let fa = same_wide c.args.a (omega (arith, c.requires.small_a)) ∙ ea in
    let fb = same_wide c.args.b (omega (arith, c.requires.small_b)) ∙ eb in
    let fc = same_wide c.args.c (omega (arith, c.requires.small_c)) ∙ ec in
    let fd = same_wide c.args.d (omega (arith, c.requires.small_d)) ∙ ed in
    let pair = c.wide_2-middles in
    let z = wide_step c.args.span.low pair.result.low pair.result.high c.mix-2.result (2 ^ 91) (omega arith) pair.ensures.low_small pair.ensures.high_small c.mix-2.ensures.value c.mix-2.ensures.bound in
    same_wide c.mix-2.result (omega (arith, z.1)) ∙ z.0 ∙ rw (pair.ensures.low f fa fb fc, pair.ensures.high f fb fc fd) refl

pub returns-clause-third : goal.returns-clause-third
unfolding blossom
returns-clause-third c f ea eb ec ed =
    let fa = same_wide c.args.a (omega (arith, c.requires.small_a)) ∙ ea in
    let fb = same_wide c.args.b (omega (arith, c.requires.small_b)) ∙ eb in
    let fc = same_wide c.args.c (omega (arith, c.requires.small_c)) ∙ ec in
    let fd = same_wide c.args.d (omega (arith, c.requires.small_d)) ∙ ed in
    let pair = c.wide_2-highs in
    let z = wide_step c.args.span.low pair.result.low pair.result.high c.mix-3.result (2 ^ 91) (omega arith) pair.ensures.low_small pair.ensures.high_small c.mix-3.ensures.value c.mix-3.ensures.bound in
    same_wide c.mix-3.result (omega (arith, z.1)) ∙ z.0 ∙ rw (pair.ensures.low f fa fb fc, pair.ensures.high f fb fc fd) refl

pub returns-clause-fourth : goal.returns-clause-fourth
unfolding blossom
returns-clause-fourth c f ea eb ec ed =
    let fa = same_wide c.args.a (omega (arith, c.requires.small_a)) ∙ ea in
    let fb = same_wide c.args.b (omega (arith, c.requires.small_b)) ∙ eb in
    let fc = same_wide c.args.c (omega (arith, c.requires.small_c)) ∙ ec in
    let fd = same_wide c.args.d (omega (arith, c.requires.small_d)) ∙ ed in
    let pair = c.wide_2-highs in
    let z = wide_step c.args.span.high pair.result.low pair.result.high c.mix-4.result (2 ^ 91) (omega arith) pair.ensures.low_small pair.ensures.high_small c.mix-4.ensures.value c.mix-4.ensures.bound in
    same_wide c.mix-4.result (omega (arith, z.1)) ∙ z.0 ∙ rw (pair.ensures.low f fa fb fc, pair.ensures.high f fb fc fd) refl
