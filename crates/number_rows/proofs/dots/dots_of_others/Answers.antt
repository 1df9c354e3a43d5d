use Rattle.std.proofs.Common.{length}
use Rattle.number_rows.proofs.dots.dots_of_others.Goals as goal

pub dots_by-requires : goal.dots_by-requires
dots_by-requires c = record { a = λ i l. c.in-Some-Some.ensures.long (length c.args.out.now) i c.requires.a l }
