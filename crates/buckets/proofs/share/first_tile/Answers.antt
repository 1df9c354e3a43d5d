use Rattle.buckets.proofs.Skipping.{first_as}
use Rattle.buckets.proofs.share.first_tile.Goals as goal

pub returns : goal.returns
returns g c = first_as g.begun c.args.shown.now c.first.result c.min.result c.requires c.first.ensures c.min.ensures
