use Rattle.buckets.proofs.leaf_use.pass_leaf.Given as goal

abbrev pub ghost-use_leaf : goal.ghost-use_leaf
ghost-use_leaf g a = g.at_epoch.begun
