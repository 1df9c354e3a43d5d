use Rattle.std.proofs.Common.{◌≡◌}
use Rattle.pixel_account.specs.Stacks.{GoesOver}
use Rattle.pixel_account.proofs.leaves.put_frame.Given as goal

abbrev pub invariant-loop-number : goal.invariant-loop-number
invariant-loop-number g l = record {
  goes : GoesOver g.at.accepted g.at.frame l.number l.initial.stacks l.stacks l.initial.shop.count l.shop.count;
  set : l.shop.set ≡ l.initial.shop.set;
  textures : l.shop.cache.textures ≡ l.initial.shop.cache.textures;
}

abbrev pub ghost-put_prim : goal.ghost-put_prim
ghost-put_prim g a = g.at
