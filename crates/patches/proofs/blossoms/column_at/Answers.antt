use Rattle.std.proofs.Common.{◌≡◌, ◌∙◌, [], ◌∷◌, ◌+◌, ◌-ℤ◌, ap, sym, refl, arith, pos, ◌*ℤ◌, ◌*◌, ◌^◌}
use Rattle.fixed_math.specs.Blossom.{blossom}
use Rattle.fixed_math.proofs.Fits.{read_back}
use Rattle.patches.proofs.Curves.{rise_of_pair}
use Rattle.patches.proofs.Fractions.{same_64, same_wide, same_cast, cast_step, wide_below}
use Rattle.patches.proofs.blossoms.column_at.Goals as goal

pub returns-clause-place : goal.returns-clause-place
unfolding blossom
returns-clause-place c f ea eb ec ed =
    let pair = c.blossoms_2-pair in
    let fa = same_64 c.args.a (omega (arith, c.requires.small_a)) ∙ ea in
    let fb = same_64 c.args.b (omega (arith, c.requires.small_b)) ∙ eb in
    let fc = same_64 c.args.c (omega (arith, c.requires.small_c)) ∙ ec in
    let fd = same_64 c.args.d (omega (arith, c.requires.small_d)) ∙ ed in
    let low = pair.ensures.low f fa fb fc in
    let high = pair.ensures.high f fb fc fd in
    let z = cast_step c.args.v pair.result.low pair.result.high c.mix.result (2 ^ 55) (omega arith) pair.ensures.low_small pair.ensures.high_small c.mix.ensures.value c.mix.ensures.bound in
    same_wide c.mix.result (omega (arith, z.1)) ∙ z.0 ∙ rw (low, high) refl

pub returns-clause-rise : goal.returns-clause-rise
returns-clause-rise c f ea eb ec ed =
    let pair = c.blossoms_2-pair in
    let fa = same_64 c.args.a (omega (arith, c.requires.small_a)) ∙ ea in
    let fb = same_64 c.args.b (omega (arith, c.requires.small_b)) ∙ eb in
    let fc = same_64 c.args.c (omega (arith, c.requires.small_c)) ∙ ec in
    let fd = same_64 c.args.d (omega (arith, c.requires.small_d)) ∙ ed in
    let low = pair.ensures.low f fa fb fc in
    let high = pair.ensures.high f fb fc fd in
    let low_is = same_cast pair.result.low (omega (arith, pair.ensures.low_small)) ∙ low in
    let high_is = same_cast pair.result.high (omega (arith, pair.ensures.high_small)) ∙ high in
    let step : c.minus.result ≡ blossom (c.args.v ∷ c.args.v ∷ []) (λ k. f (k + 1) -ℤ f k) 0 = c.minus.ensures.value ∙ rw (low_is, high_is) (sym (rise_of_pair c.args.v c.args.v f)) in
    read_back c.scaled.result c.scaled.type_inv ∙ c.scaled.ensures.value
    ∙ ap (λ z. pos 3 *ℤ z) (read_back c.minus.result c.minus.type_inv ∙ step)

pub returns-clause-place_small : goal.returns-clause-place_small
returns-clause-place_small c =
    let pair = c.blossoms_2-pair in
    let z = cast_step c.args.v pair.result.low pair.result.high c.mix.result (2 ^ 55) (omega arith) pair.ensures.low_small pair.ensures.high_small c.mix.ensures.value c.mix.ensures.bound in
    wide_below c.mix.result (4096 * 2 ^ 55) _ (omega arith) (omega arith) z.1
