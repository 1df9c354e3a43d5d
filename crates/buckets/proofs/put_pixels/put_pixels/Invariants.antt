use Rattle.buckets.proofs.put_pixels.put_pixels.Given as goal

abbrev pub ghost-put_in_row : goal.ghost-put_in_row
ghost-put_in_row g a = g.begun

abbrev pub ghost-put_alone : goal.ghost-put_alone
ghost-put_alone g a = g.begun
