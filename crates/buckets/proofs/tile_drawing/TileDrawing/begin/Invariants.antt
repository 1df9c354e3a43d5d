use Rattle.buckets.proofs.tile_drawing.TileDrawing.begin.Given as goal

abbrev pub ghost-tile_at : goal.ghost-tile_at
ghost-tile_at g a = g.begun
