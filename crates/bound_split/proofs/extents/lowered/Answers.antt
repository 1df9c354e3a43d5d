use Rattle.bound_split.proofs.Meetings.{lowered_is}
use Rattle.bound_split.proofs.extents.lowered.Goals as goal

pub returns : goal.returns
returns c = rw (c.sub.ensures, c.sub-2.ensures, c.sub-3.ensures) (lowered_is c.args.p c.args.bound c.requires.small c.requires.low c.requires.high)
