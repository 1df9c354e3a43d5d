use Rattle.std.proofs.Common.{◌-◌, length}
use Rattle.conformance.proofs.answer_all.Given as goal

abbrev pub decreases-loop-reader : goal.decreases-loop-reader
decreases-loop-reader g l = length l.reader.text.now - l.reader.at
