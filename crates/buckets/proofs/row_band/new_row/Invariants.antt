use Rattle.buckets.proofs.row_band.new_row.Given as goal

abbrev pub ghost-bucket_at : goal.ghost-bucket_at
ghost-bucket_at g a = g.begun
