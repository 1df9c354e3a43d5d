use Rattle.buckets.proofs.NothingLost.{nothing_lost}
use Rattle.buckets.proofs.walk_laws.nothing_lost_law.Goals as goal

pub returns : goal.returns
returns c = nothing_lost
