use Rattle.std.proofs.Common.{◌∙◌, refl, arith, ◌*◌, ◌^◌}
use Rattle.fixed_math.specs.Blossom.{blossom}
use Rattle.patches.proofs.Fractions.{same_64, short_step, short_below}
use Rattle.patches.proofs.blossoms.blossoms_2.Goals as goal

pub mix_short-requires-clause-small_a : goal.mix_short-requires-clause-small_a
mix_short-requires-clause-small_a c =
    let ab = short_step c.args.t c.args.a c.args.b c.mix_short-ab.result (2 ^ 31) (omega arith) c.requires.small_a c.requires.small_b c.mix_short-ab.ensures.value c.mix_short-ab.ensures.bound in
    short_below c.mix_short-ab.result (4096 * 2 ^ 31) _ (omega arith) (omega arith) ab.1

pub mix_short-requires-clause-small_b : goal.mix_short-requires-clause-small_b
mix_short-requires-clause-small_b c =
    let bc = short_step c.args.t c.args.b c.args.c c.mix_short-bc.result (2 ^ 31) (omega arith) c.requires.small_b c.requires.small_c c.mix_short-bc.ensures.value c.mix_short-bc.ensures.bound in
    short_below c.mix_short-bc.result (4096 * 2 ^ 31) _ (omega arith) (omega arith) bc.1

pub mix_short-requires-2-clause-small_a : goal.mix_short-requires-2-clause-small_a
mix_short-requires-2-clause-small_a c =
    let bc = short_step c.args.t c.args.b c.args.c c.mix_short-bc.result (2 ^ 31) (omega arith) c.requires.small_b c.requires.small_c c.mix_short-bc.ensures.value c.mix_short-bc.ensures.bound in
    short_below c.mix_short-bc.result (4096 * 2 ^ 31) _ (omega arith) (omega arith) bc.1

pub mix_short-requires-2-clause-small_b : goal.mix_short-requires-2-clause-small_b
mix_short-requires-2-clause-small_b c =
    let cd = short_step c.args.t c.args.c c.args.d c.mix_short-cd.result (2 ^ 31) (omega arith) c.requires.small_c c.requires.small_d c.mix_short-cd.ensures.value c.mix_short-cd.ensures.bound in
    short_below c.mix_short-cd.result (4096 * 2 ^ 31) _ (omega arith) (omega arith) cd.1

pub returns-clause-low : goal.returns-clause-low
unfolding blossom
returns-clause-low c f ea eb ec =
    let ab = short_step c.args.t c.args.a c.args.b c.mix_short-ab.result (2 ^ 31) (omega arith) c.requires.small_a c.requires.small_b c.mix_short-ab.ensures.value c.mix_short-ab.ensures.bound in
    let bc = short_step c.args.t c.args.b c.args.c c.mix_short-bc.result (2 ^ 31) (omega arith) c.requires.small_b c.requires.small_c c.mix_short-bc.ensures.value c.mix_short-bc.ensures.bound in
    let abc = short_step c.args.s c.mix_short-ab.result c.mix_short-bc.result c.mix_short.result (4096 * 2 ^ 31) (omega arith) ab.1 bc.1 c.mix_short.ensures.value c.mix_short.ensures.bound in
    same_64 c.mix_short.result (omega (arith, abc.1)) ∙ abc.0 ∙ rw (ab.0, bc.0, ea, eb, ec) refl

pub returns-clause-high : goal.returns-clause-high
unfolding blossom
returns-clause-high c f eb ec ed =
    let bc = short_step c.args.t c.args.b c.args.c c.mix_short-bc.result (2 ^ 31) (omega arith) c.requires.small_b c.requires.small_c c.mix_short-bc.ensures.value c.mix_short-bc.ensures.bound in
    let cd = short_step c.args.t c.args.c c.args.d c.mix_short-cd.result (2 ^ 31) (omega arith) c.requires.small_c c.requires.small_d c.mix_short-cd.ensures.value c.mix_short-cd.ensures.bound in
    let bcd = short_step c.args.s c.mix_short-bc.result c.mix_short-cd.result c.mix_short-2.result (4096 * 2 ^ 31) (omega arith) bc.1 cd.1 c.mix_short-2.ensures.value c.mix_short-2.ensures.bound in
    same_64 c.mix_short-2.result (omega (arith, bcd.1)) ∙ bcd.0 ∙ rw (bc.0, cd.0, eb, ec, ed) refl

pub returns-clause-low_small : goal.returns-clause-low_small
returns-clause-low_small c =
    let ab = short_step c.args.t c.args.a c.args.b c.mix_short-ab.result (2 ^ 31) (omega arith) c.requires.small_a c.requires.small_b c.mix_short-ab.ensures.value c.mix_short-ab.ensures.bound in
    let bc = short_step c.args.t c.args.b c.args.c c.mix_short-bc.result (2 ^ 31) (omega arith) c.requires.small_b c.requires.small_c c.mix_short-bc.ensures.value c.mix_short-bc.ensures.bound in
    let abc = short_step c.args.s c.mix_short-ab.result c.mix_short-bc.result c.mix_short.result (4096 * 2 ^ 31) (omega arith) ab.1 bc.1 c.mix_short.ensures.value c.mix_short.ensures.bound in
    short_below c.mix_short.result (4096 * (4096 * 2 ^ 31)) _ (omega arith) (omega arith) abc.1

pub returns-clause-high_small : goal.returns-clause-high_small
returns-clause-high_small c =
    let bc = short_step c.args.t c.args.b c.args.c c.mix_short-bc.result (2 ^ 31) (omega arith) c.requires.small_b c.requires.small_c c.mix_short-bc.ensures.value c.mix_short-bc.ensures.bound in
    let cd = short_step c.args.t c.args.c c.args.d c.mix_short-cd.result (2 ^ 31) (omega arith) c.requires.small_c c.requires.small_d c.mix_short-cd.ensures.value c.mix_short-cd.ensures.bound in
    let bcd = short_step c.args.s c.mix_short-bc.result c.mix_short-cd.result c.mix_short-2.result (4096 * 2 ^ 31) (omega arith) bc.1 cd.1 c.mix_short-2.ensures.value c.mix_short-2.ensures.bound in
    short_below c.mix_short-2.result (4096 * (4096 * 2 ^ 31)) _ (omega arith) (omega arith) bcd.1
