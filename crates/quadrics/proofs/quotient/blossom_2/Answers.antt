use Rattle.std.proofs.Common.{refl, ◌∙◌, ◌*◌, ◌^◌}
use Rattle.fixed_math.specs.Blossom.{blossom}
use Rattle.fixed_math.proofs.Fits.{read_back}
use Rattle.quadrics.proofs.Mixes.{mixed, mixed_below, mixed_once, mixed_twice_below}
use Rattle.quadrics.proofs.quotient.blossom_2.Goals as goal

pub mix-requires-clause-small_a : goal.mix-requires-clause-small_a
mix-requires-clause-small_a c = mixed_once c.mix-ab.result c.mix-ab.type_inv (mixed_below c.args.a c.args.b c.mix-ab.result (2 ^ 70) c.ranges.a.sfits c.ranges.b.sfits c.mix-ab.ensures.bound c.requires.small_a c.requires.small_b)

pub mix-requires-clause-small_b : goal.mix-requires-clause-small_b
mix-requires-clause-small_b c = mixed_once c.mix-bc.result c.mix-bc.type_inv (mixed_below c.args.b c.args.c c.mix-bc.result (2 ^ 70) c.ranges.b.sfits c.ranges.c.sfits c.mix-bc.ensures.bound c.requires.small_b c.requires.small_c)

pub returns-clause-bound : goal.returns-clause-bound
returns-clause-bound c r ha hb hc =
    let ab = mixed_below c.args.a c.args.b c.mix-ab.result r c.ranges.a.sfits c.ranges.b.sfits c.mix-ab.ensures.bound ha hb in
    let bc = mixed_below c.args.b c.args.c c.mix-bc.result r c.ranges.b.sfits c.ranges.c.sfits c.mix-bc.ensures.bound hb hc in
    mixed_twice_below c.mix.result r c.mix.type_inv (mixed_below c.mix-ab.result c.mix-bc.result c.mix.result (4096 * r) c.mix-ab.type_inv c.mix-bc.type_inv c.mix.ensures.bound ab bc)

pub returns-clause-value : goal.returns-clause-value
unfolding blossom
returns-clause-value c =
    let ab = mixed c.args.s.second c.args.a c.args.b c.args.a c.args.b c.mix-ab.result c.ranges.a.sfits c.ranges.b.sfits c.mix-ab.ensures.value refl refl in
    let bc = mixed c.args.s.second c.args.b c.args.c c.args.b c.args.c c.mix-bc.result c.ranges.b.sfits c.ranges.c.sfits c.mix-bc.ensures.value refl refl in
    read_back c.mix.result c.mix.type_inv ∙ mixed c.args.s.first c.mix-ab.result c.mix-bc.result _ _ c.mix.result c.mix-ab.type_inv c.mix-bc.type_inv c.mix.ensures.value ab bc
