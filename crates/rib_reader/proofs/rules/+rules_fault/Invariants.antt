use Rattle.std.proofs.Common.{length}
use Rattle.rib_reader.proofs.rules.+rules_fault.Given as goal

abbrev pub decreases-rules_fault : goal.decreases-rules_fault
decreases-rules_fault l = length l.rules.now
