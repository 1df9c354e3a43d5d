use Rattle.buckets.proofs.frame.finish_tile.Given as goal

abbrev pub ghost-put_pixels : goal.ghost-put_pixels
ghost-put_pixels g a = g.at_epoch.begun

abbrev pub ghost-next_tile : goal.ghost-next_tile
ghost-next_tile g a = g.at_epoch
