use Rattle.grid_variables.specs.Places.{parameter_at}
use Rattle.grid_variables.proofs.Over.{over_more}
use Rattle.grid_variables.proofs.places.parameters.Goals as goal

pub loop-i-preserved : goal.loop-i-preserved
loop-i-preserved c = over_more (parameter_at c.args.along c.args.leaf.now) c.loop-i.i c.loop-i.numbers.items c.push.new.self.items c.parameter.result c.in_ok-push.ensures.items c.parameter.ensures c.loop-i.invariant
