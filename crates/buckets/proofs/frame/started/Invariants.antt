use Rattle.buckets.proofs.frame.started.Given as goal

abbrev pub ghost-tile_at : goal.ghost-tile_at
ghost-tile_at g a = g.begun

abbrev pub ghost-first_row : goal.ghost-first_row
ghost-first_row g a = g.begun
