use Rattle.std.proofs.Common.{◌≡◌, length}
use Rattle.bound_split.specs.Leaves.{pending}
use Rattle.buckets.specs.Pictures.{decide}
use Rattle.pixel_account.specs.Stacks.{GoesThrough}
use Rattle.pixel_account.proofs.leaves.put_prim.Given as goal

abbrev pub invariant-loop-leaf : goal.invariant-loop-leaf
invariant-loop-leaf g l = record {
  goes : GoesThrough g.at.accepted g.at.frame l.prim l.number l.initial.stacks l.stacks l.initial.shop.count l.shop.count l.walk;
  set : l.shop.set ≡ l.initial.shop.set;
  textures : l.shop.cache.textures ≡ l.initial.shop.cache.textures;
}

abbrev pub decreases-loop-leaf : goal.decreases-loop-leaf
decreases-loop-leaf g l = length (pending (decide g.at.frame.camera l.prim) l.walk)

abbrev pub ghost-put_leaf : goal.ghost-put_leaf
ghost-put_leaf g a = g.at
