use Rattle.std.proofs.Common.{◌≡◌, ◌+◌, length}
use Rattle.buckets.specs.Standing.{Going, to_come}
use Rattle.buckets.proofs.Passing.{some_leaf}
use Rattle.buckets.proofs.tile_drawing.TileDrawing.fill.Given as goal

abbrev pub invariant-loop-self : goal.invariant-loop-self
invariant-loop-self g l = record {
  at_same : l.self.at ≡ l.initial.self.at;
  rect : l.self.rect ≡ l.initial.self.rect;
  limit : l.epoch.limit ≡ l.initial.epoch.limit;
  set : l.shop.set ≡ l.initial.shop.set;
  textures : l.shop.cache.textures ≡ l.initial.shop.cache.textures;
  leaves : l.self.leaves.sights ≡ l.shown.frame.now;
  going : Going g.at_epoch l.self.at l.self.tile l.self.next (to_come l.shown.frame.now l.self.leaves.number l.self.leaves.pieces) l.epoch.kept l.shop.count;
}

abbrev pub decreases-loop-self : goal.decreases-loop-self
decreases-loop-self g l = some_leaf l.self.next + length (to_come l.shown.frame.now l.self.leaves.number l.self.leaves.pieces)

abbrev pub ghost-pass_leaf : goal.ghost-pass_leaf
ghost-pass_leaf g a = g.at_epoch
