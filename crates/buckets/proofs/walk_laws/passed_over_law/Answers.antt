use Rattle.buckets.proofs.PassedOver.{none_shows_below}
use Rattle.buckets.proofs.walk_laws.passed_over_law.Goals as goal

pub returns : goal.returns
returns c = none_shows_below
