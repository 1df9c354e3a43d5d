use Rattle.buckets.proofs.Culling.{left_out}
use Rattle.buckets.proofs.walk_laws.unmet_law.Goals as goal

pub returns : goal.returns
returns c = left_out
