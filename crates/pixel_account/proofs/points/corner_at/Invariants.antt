use Rattle.pixel_account.proofs.points.corner_at.Given as goal

abbrev pub ghost-point_at : goal.ghost-point_at
ghost-point_at g a = g.of
