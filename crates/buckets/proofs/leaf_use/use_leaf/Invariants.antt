use Rattle.buckets.proofs.leaf_use.use_leaf.Given as goal

abbrev pub ghost-hide_leaf : goal.ghost-hide_leaf
ghost-hide_leaf g a = g.begun.drawing

abbrev pub ghost-shade_leaf : goal.ghost-shade_leaf
ghost-shade_leaf g a = g.begun
