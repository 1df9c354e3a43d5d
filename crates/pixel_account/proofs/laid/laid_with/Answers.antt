use Rattle.pixel_account.proofs.Laying.{laid_more}
use Rattle.pixel_account.proofs.laid.laid_with.Goals as goal

pub returns : goal.returns
returns c = λ front is. laid_more front c.args.f.now c.args.before.now _ is c.colour_part.ensures c.colour_part-2.ensures c.colour_part-3.ensures c.passed_part.ensures c.passed_part-2.ensures c.passed_part-3.ensures
