use Rattle.buckets.proofs.TileSamples.{tiles_small}
use Rattle.buckets.proofs.walk_laws.tile_samples_law.Goals as goal

pub returns : goal.returns
returns c = tiles_small
