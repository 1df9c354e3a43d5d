use Rattle.std.proofs.Common.{◌-◌, length}
use Rattle.conformance.specs.Reading.{CameFurther}
use Rattle.conformance.proofs.case.Case.read.Given as goal

abbrev pub invariant-loop-library : goal.invariant-loop-library
invariant-loop-library l = CameFurther l.fn.reader l.reader

abbrev pub decreases-loop-library : goal.decreases-loop-library
decreases-loop-library l = length l.reader.text.now - l.reader.at
