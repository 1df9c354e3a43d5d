use Rattle.buckets.proofs.LeftOut.{lies_behind}
use Rattle.buckets.proofs.walk_laws.behind_law.Goals as goal

pub returns : goal.returns
returns c = lies_behind
