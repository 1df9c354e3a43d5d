use Rattle.buckets.proofs.frame_part.put_buckets.Given as goal

abbrev pub ghost-first_tile : goal.ghost-first_tile
ghost-first_tile g a = g.begun

abbrev pub ghost-draw_tiles : goal.ghost-draw_tiles
ghost-draw_tiles g a = g.begun
