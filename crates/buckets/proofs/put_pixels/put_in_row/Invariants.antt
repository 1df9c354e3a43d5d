use Rattle.buckets.proofs.put_pixels.put_in_row.Given as goal

abbrev pub ghost-put_bucket : goal.ghost-put_bucket
ghost-put_bucket g a = g.begun

abbrev pub ghost-put_row : goal.ghost-put_row
ghost-put_row g a = g.begun
