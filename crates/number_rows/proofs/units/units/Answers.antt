use Rattle.std.proofs.Common.{length}
use Rattle.number_rows.proofs.units.units.Goals as goal

pub units_of_rows-requires-clause-a : goal.units_of_rows-requires-clause-a
units_of_rows-requires-clause-a c i l = c.in-Some.ensures.long (length c.args.x.now) i c.requires.a l
