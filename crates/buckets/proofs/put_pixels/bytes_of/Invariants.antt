use Rattle.buckets.proofs.put_pixels.bytes_of.Given as goal

abbrev pub ghost-bucket_at : goal.ghost-bucket_at
ghost-bucket_at g a = g.begun
