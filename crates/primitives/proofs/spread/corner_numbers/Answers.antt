use Rattle.primitives.specs.Spread.{blended_at}
use Rattle.mesh_basis.proofs.Runs.{list_next}
use Rattle.primitives.proofs.spread.corner_numbers.Goals as goal

pub loop-m-preserved : goal.loop-m-preserved
loop-m-preserved c =
    list_next (blended_at c.args.halves c.args.width c.args.numbers.now) c.loop-m.m c.loop-m.spread.items _ c.blended_at.result c.in_ok-push.ensures.items c.blended_at.ensures c.loop-m.invariant
