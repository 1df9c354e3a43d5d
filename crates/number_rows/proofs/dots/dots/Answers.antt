use Rattle.std.proofs.Common.{length}
use Rattle.number_rows.proofs.dots.dots.Goals as goal

pub dots_of_rows-requires-clause-a : goal.dots_of_rows-requires-clause-a
dots_of_rows-requires-clause-a c i l = c.in-Some-Some.ensures.long (length c.args.out.now) i c.requires.a l

pub dots_of_rows-requires-clause-b : goal.dots_of_rows-requires-clause-b
dots_of_rows-requires-clause-b c i l = c.in-Some-Some.ensures'.long (length c.args.out.now) i c.requires.b l
