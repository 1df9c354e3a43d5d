use Rattle.buckets.proofs.FewGrids.{shaded_once}
use Rattle.buckets.proofs.walk_laws.one_epoch_law.Goals as goal

pub returns : goal.returns
returns c = shaded_once
