use Rattle.pixel_account.proofs.leaves.put_leaf.Given as goal

abbrev pub ghost-put_grid : goal.ghost-put_grid
ghost-put_grid g a = g.at
