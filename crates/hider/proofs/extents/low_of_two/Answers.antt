use Rattle.hider.proofs.Boxes.{below_all}
use Rattle.hider.proofs.extents.low_of_two.Goals as goal

pub returns-clause-first : goal.returns-clause-first
returns-clause-first c = below_all c.low.result c.low_of.result c.args.first.now c.low.ensures.first c.low_of.ensures

pub returns-clause-last : goal.returns-clause-last
returns-clause-last c = below_all c.low.result c.low_of-2.result c.args.last.now c.low.ensures.second c.low_of-2.ensures
