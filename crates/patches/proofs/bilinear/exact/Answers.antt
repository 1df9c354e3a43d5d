use Rattle.std.proofs.Common.{◌∙◌, arith, refl, ◌*◌, ◌^◌}
use Rattle.fixed_math.specs.Blossom.{blossom}
use Rattle.patches.proofs.Fractions.{same_64, short_step, short_below}
use Rattle.patches.proofs.bilinear.exact.Goals as goal

pub mix_short-requires-clause-small_a : goal.mix_short-requires-clause-small_a
mix_short-requires-clause-small_a c =
    let bottom = short_step c.args.u c.control_at-a.result c.control_at-b.result c.mix_short-bottom.result (2 ^ 31) (omega arith) c.control_at-a.ensures.bound c.control_at-b.ensures.bound c.mix_short-bottom.ensures.value c.mix_short-bottom.ensures.bound in
    short_below c.mix_short-bottom.result (4096 * 2 ^ 31) _ (omega arith) (omega arith) bottom.1

pub mix_short-requires-clause-small_b : goal.mix_short-requires-clause-small_b
mix_short-requires-clause-small_b c =
    let top = short_step c.args.u c.control_at-c.result c.control_at-d.result c.mix_short-top.result (2 ^ 31) (omega arith) c.control_at-c.ensures.bound c.control_at-d.ensures.bound c.mix_short-top.ensures.value c.mix_short-top.ensures.bound in
    short_below c.mix_short-top.result (4096 * 2 ^ 31) _ (omega arith) (omega arith) top.1

pub returns-clause-value : goal.returns-clause-value
unfolding blossom
returns-clause-value c =
    let bottom = short_step c.args.u c.control_at-a.result c.control_at-b.result c.mix_short-bottom.result (2 ^ 31) (omega arith) c.control_at-a.ensures.bound c.control_at-b.ensures.bound c.mix_short-bottom.ensures.value c.mix_short-bottom.ensures.bound in
    let top = short_step c.args.u c.control_at-c.result c.control_at-d.result c.mix_short-top.result (2 ^ 31) (omega arith) c.control_at-c.ensures.bound c.control_at-d.ensures.bound c.mix_short-top.ensures.value c.mix_short-top.ensures.bound in
    let whole = short_step c.args.v c.mix_short-bottom.result c.mix_short-top.result c.mix_short.result (4096 * 2 ^ 31) (omega arith) bottom.1 top.1 c.mix_short.ensures.value c.mix_short.ensures.bound in
    same_64 c.mix_short.result (omega (arith, whole.1)) ∙ whole.0
    ∙ rw (bottom.0, top.0, c.control_at-a.ensures.value, c.control_at-b.ensures.value, c.control_at-c.ensures.value, c.control_at-d.ensures.value) refl

pub returns-clause-bound : goal.returns-clause-bound
returns-clause-bound c =
    let bottom = short_step c.args.u c.control_at-a.result c.control_at-b.result c.mix_short-bottom.result (2 ^ 31) (omega arith) c.control_at-a.ensures.bound c.control_at-b.ensures.bound c.mix_short-bottom.ensures.value c.mix_short-bottom.ensures.bound in
    let top = short_step c.args.u c.control_at-c.result c.control_at-d.result c.mix_short-top.result (2 ^ 31) (omega arith) c.control_at-c.ensures.bound c.control_at-d.ensures.bound c.mix_short-top.ensures.value c.mix_short-top.ensures.bound in
    let whole = short_step c.args.v c.mix_short-bottom.result c.mix_short-top.result c.mix_short.result (4096 * 2 ^ 31) (omega arith) bottom.1 top.1 c.mix_short.ensures.value c.mix_short.ensures.bound in
    short_below c.mix_short.result (4096 * (4096 * 2 ^ 31)) _ (omega arith) (omega arith) whole.1
