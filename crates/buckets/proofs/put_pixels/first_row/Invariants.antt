use Rattle.buckets.proofs.put_pixels.first_row.Given as goal

abbrev pub ghost-new_row : goal.ghost-new_row
ghost-new_row g a = g.begun
