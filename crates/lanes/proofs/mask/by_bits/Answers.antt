use Rattle.lanes.proofs.Choices.{chosen_is}
use Rattle.lanes.proofs.mask.by_bits.Goals as goal

pub returns : goal.returns
returns c = chosen_is c.args.m c.args.x c.args.y c.requires c.ranges.x c.ranges.y
