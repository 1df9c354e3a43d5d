use Rattle.buckets.proofs.leaf_use.shade_leaf.Given as goal

abbrev pub ghost-shade_grid : goal.ghost-shade_grid
ghost-shade_grid g a = g.begun
