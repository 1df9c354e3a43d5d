use Rattle.grid_variables.specs.Places.{derivative_at}
use Rattle.grid_variables.proofs.Over.{over_more}
use Rattle.grid_variables.proofs.places.derivatives.Goals as goal

pub loop-i-preserved : goal.loop-i-preserved
loop-i-preserved c = over_more (derivative_at c.args.along c.args.leaf.now) c.loop-i.i c.loop-i.vectors.items c.push.new.self.items c.derivative.result c.in_ok-push.ensures.items c.derivative.ensures c.loop-i.invariant
