use Rattle.pixel_account.proofs.points.cell_of.Given as goal

abbrev pub ghost-corner_at : goal.ghost-corner_at
ghost-corner_at g a = g.of
