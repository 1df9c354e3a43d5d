use Rattle.std.proofs.Common.{sym}
use Rattle.sl_lexer.proofs.Spans.{number_some}
use Rattle.sl_lexer.proofs.finding.find_number.Goals as goal

pub returns-in_ok-from_bytes-in-Some-clause-within : goal.returns-in_ok-from_bytes-in-Some-clause-within
returns-in_ok-from_bytes-in-Some-clause-within c = (number_some c.args.bytes.now c.in-Some.len c.requires (sym c.in-Some.ensures.len), c.in-Some.ensures.within)
