use Rattle.bound_split.proofs.Meetings.{raised_is}
use Rattle.bound_split.proofs.extents.raised.Goals as goal

pub returns : goal.returns
returns c = rw (c.add.ensures, c.add-2.ensures, c.add-3.ensures) (raised_is c.args.p c.args.bound c.requires.small c.requires.low c.requires.high)
