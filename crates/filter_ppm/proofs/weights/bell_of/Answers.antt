use Rattle.filter_ppm.proofs.Filters.{exp2_low}
use Rattle.filter_ppm.proofs.weights.bell_of.Goals as goal

pub returns-clause-low : goal.returns-clause-low
returns-clause-low c = rw c.exp2.ensures (exp2_low _)
