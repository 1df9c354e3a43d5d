use Rattle.outside.proofs.Saying.{says-line}
use Rattle.outside.proofs.say.say_line.Goals as goal

pub returns : goal.returns
returns g c = says-line c.line.result c.args.text.now _ _ _ _ c.line.ensures.lines c.line.ensures.cause
