use Rattle.std.proofs.Common.{arith}
use Rattle.buckets.proofs.BucketRows.{few_tiles}
use Rattle.buckets.proofs.Skipping.{next_as, small_step}
use Rattle.buckets.proofs.share.tile_behind.Goals as goal

pub overflow_add-at : goal.overflow_add-at
overflow_add-at g c =
    let q = c.requires in
    let few = few_tiles g.begun.drawing q.0.drawn.drawable in
    let low = q.0.at' in
    let small = small_step g.begun c.args.shown.now c.step.result q.0.drawn c.step.ensures in
    omega (arith, few, low, small)

pub returns : goal.returns
returns g c = next_as g.begun c.args.shown.now c.args.at c.step.result c.min.result c.requires.0.drawn c.requires.0.at' c.requires.1 c.step.ensures c.min.ensures
