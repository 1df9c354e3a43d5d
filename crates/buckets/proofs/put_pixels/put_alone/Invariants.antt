use Rattle.buckets.proofs.put_pixels.put_alone.Given as goal

abbrev pub ghost-bytes_of : goal.ghost-bytes_of
ghost-bytes_of g a = g.begun
