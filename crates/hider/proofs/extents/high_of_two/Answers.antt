use Rattle.hider.proofs.Boxes.{above_all}
use Rattle.hider.proofs.extents.high_of_two.Goals as goal

pub returns-clause-first : goal.returns-clause-first
returns-clause-first c = above_all c.high.result c.high_of.result c.args.first.now c.high.ensures.first c.high_of.ensures

pub returns-clause-last : goal.returns-clause-last
returns-clause-last c = above_all c.high.result c.high_of-2.result c.args.last.now c.high.ensures.second c.high_of-2.ensures
