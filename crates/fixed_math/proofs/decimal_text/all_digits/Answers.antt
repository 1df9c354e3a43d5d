use Rattle.std.proofs.Common.{[]}
use Rattle.fixed_math.proofs.decimal_text.all_digits.Goals as goal

pub returns : goal.returns
returns c = c.add_all-2.ensures.more c.args.whole.now (c.add_all.ensures.more [] c.none.ensures)
