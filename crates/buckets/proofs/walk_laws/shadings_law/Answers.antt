use Rattle.buckets.proofs.FewGrids.{shaded_where_met}
use Rattle.buckets.proofs.walk_laws.shadings_law.Goals as goal

pub returns : goal.returns
returns c = shaded_where_met
