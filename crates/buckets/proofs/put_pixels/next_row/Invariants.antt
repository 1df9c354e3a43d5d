use Rattle.buckets.proofs.put_pixels.next_row.Given as goal

abbrev pub ghost-turn_row : goal.ghost-turn_row
ghost-turn_row g a = g.begun
