use Rattle.buckets.proofs.frame.next_tile.Given as goal

abbrev pub ghost-tile_behind : goal.ghost-tile_behind
ghost-tile_behind g a = g.at_epoch.begun

abbrev pub ghost-next_row : goal.ghost-next_row
ghost-next_row g a = g.at_epoch.begun

abbrev pub ghost-begin : goal.ghost-begin
ghost-begin g a = g.at_epoch.begun
