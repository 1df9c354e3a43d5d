use Rattle.std.proofs.Common.{◌≡◌, ◌≤◌, ◌<◌, ◌-◌, true, length}
use Rattle.buckets.specs.Shares.{numbers_in}
use Rattle.buckets.specs.TileWalk.{draws, tile_count}
use Rattle.buckets.proofs.share.drawn_count.Given as goal

abbrev pub invariant-loop-at : goal.invariant-loop-at
invariant-loop-at g l = record {
  within : l.at ≤ tile_count g.begun.drawing;
  drawn : l.at < tile_count g.begun.drawing → draws g.begun.drawing l.at ≡ true;
  few : l.count ≤ l.at;
  counts : l.count ≡ length (numbers_in g.begun.drawing.share l.at);
}

abbrev pub decreases-loop-at : goal.decreases-loop-at
decreases-loop-at g l = l.shown.tiles - l.at

abbrev pub ghost-first_tile : goal.ghost-first_tile
ghost-first_tile g a = g.begun

abbrev pub ghost-tile_behind : goal.ghost-tile_behind
ghost-tile_behind g a = g.begun
