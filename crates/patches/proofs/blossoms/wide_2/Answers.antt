use Rattle.std.proofs.Common.{◌∙◌, refl, arith, ◌*◌, ◌^◌}
use Rattle.fixed_math.specs.Blossom.{blossom}
use Rattle.patches.proofs.Fractions.{same_wide, wide_step, wide_below}
use Rattle.patches.proofs.blossoms.wide_2.Goals as goal

pub mix-requires-clause-small_a : goal.mix-requires-clause-small_a
mix-requires-clause-small_a c =
    let ab = wide_step c.args.t c.args.a c.args.b c.mix-ab.result (2 ^ 67) (omega arith) c.requires.small_a c.requires.small_b c.mix-ab.ensures.value c.mix-ab.ensures.bound in
    wide_below c.mix-ab.result (4096 * 2 ^ 67) _ (omega arith) (omega arith) ab.1

pub mix-requires-clause-small_b : goal.mix-requires-clause-small_b
mix-requires-clause-small_b c =
    let bc = wide_step c.args.t c.args.b c.args.c c.mix-bc.result (2 ^ 67) (omega arith) c.requires.small_b c.requires.small_c c.mix-bc.ensures.value c.mix-bc.ensures.bound in
    wide_below c.mix-bc.result (4096 * 2 ^ 67) _ (omega arith) (omega arith) bc.1

pub mix-requires-2-clause-small_a : goal.mix-requires-2-clause-small_a
mix-requires-2-clause-small_a c =
    let bc = wide_step c.args.t c.args.b c.args.c c.mix-bc.result (2 ^ 67) (omega arith) c.requires.small_b c.requires.small_c c.mix-bc.ensures.value c.mix-bc.ensures.bound in
    wide_below c.mix-bc.result (4096 * 2 ^ 67) _ (omega arith) (omega arith) bc.1

pub mix-requires-2-clause-small_b : goal.mix-requires-2-clause-small_b
mix-requires-2-clause-small_b c =
    let cd = wide_step c.args.t c.args.c c.args.d c.mix-cd.result (2 ^ 67) (omega arith) c.requires.small_c c.requires.small_d c.mix-cd.ensures.value c.mix-cd.ensures.bound in
    wide_below c.mix-cd.result (4096 * 2 ^ 67) _ (omega arith) (omega arith) cd.1

pub returns-clause-low : goal.returns-clause-low
unfolding blossom
returns-clause-low c f ea eb ec =
    let ab = wide_step c.args.t c.args.a c.args.b c.mix-ab.result (2 ^ 67) (omega arith) c.requires.small_a c.requires.small_b c.mix-ab.ensures.value c.mix-ab.ensures.bound in
    let bc = wide_step c.args.t c.args.b c.args.c c.mix-bc.result (2 ^ 67) (omega arith) c.requires.small_b c.requires.small_c c.mix-bc.ensures.value c.mix-bc.ensures.bound in
    let abc = wide_step c.args.s c.mix-ab.result c.mix-bc.result c.mix.result (4096 * 2 ^ 67) (omega arith) ab.1 bc.1 c.mix.ensures.value c.mix.ensures.bound in
    same_wide c.mix.result (omega (arith, abc.1)) ∙ abc.0 ∙ rw (ab.0, bc.0, ea, eb, ec) refl

pub returns-clause-high : goal.returns-clause-high
unfolding blossom
returns-clause-high c f eb ec ed =
    let bc = wide_step c.args.t c.args.b c.args.c c.mix-bc.result (2 ^ 67) (omega arith) c.requires.small_b c.requires.small_c c.mix-bc.ensures.value c.mix-bc.ensures.bound in
    let cd = wide_step c.args.t c.args.c c.args.d c.mix-cd.result (2 ^ 67) (omega arith) c.requires.small_c c.requires.small_d c.mix-cd.ensures.value c.mix-cd.ensures.bound in
    let bcd = wide_step c.args.s c.mix-bc.result c.mix-cd.result c.mix-2.result (4096 * 2 ^ 67) (omega arith) bc.1 cd.1 c.mix-2.ensures.value c.mix-2.ensures.bound in
    same_wide c.mix-2.result (omega (arith, bcd.1)) ∙ bcd.0 ∙ rw (bc.0, cd.0, eb, ec, ed) refl

pub returns-clause-low_small : goal.returns-clause-low_small
returns-clause-low_small c =
    let ab = wide_step c.args.t c.args.a c.args.b c.mix-ab.result (2 ^ 67) (omega arith) c.requires.small_a c.requires.small_b c.mix-ab.ensures.value c.mix-ab.ensures.bound in
    let bc = wide_step c.args.t c.args.b c.args.c c.mix-bc.result (2 ^ 67) (omega arith) c.requires.small_b c.requires.small_c c.mix-bc.ensures.value c.mix-bc.ensures.bound in
    let abc = wide_step c.args.s c.mix-ab.result c.mix-bc.result c.mix.result (4096 * 2 ^ 67) (omega arith) ab.1 bc.1 c.mix.ensures.value c.mix.ensures.bound in
    wide_below c.mix.result (4096 * (4096 * 2 ^ 67)) _ (omega arith) (omega arith) abc.1

pub returns-clause-high_small : goal.returns-clause-high_small
returns-clause-high_small c =
    let bc = wide_step c.args.t c.args.b c.args.c c.mix-bc.result (2 ^ 67) (omega arith) c.requires.small_b c.requires.small_c c.mix-bc.ensures.value c.mix-bc.ensures.bound in
    let cd = wide_step c.args.t c.args.c c.args.d c.mix-cd.result (2 ^ 67) (omega arith) c.requires.small_c c.requires.small_d c.mix-cd.ensures.value c.mix-cd.ensures.bound in
    let bcd = wide_step c.args.s c.mix-bc.result c.mix-cd.result c.mix-2.result (4096 * 2 ^ 67) (omega arith) bc.1 cd.1 c.mix-2.ensures.value c.mix-2.ensures.bound in
    wide_below c.mix-2.result (4096 * (4096 * 2 ^ 67)) _ (omega arith) (omega arith) bcd.1
