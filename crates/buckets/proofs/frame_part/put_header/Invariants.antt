use Rattle.buckets.proofs.frame_part.put_header.Given as goal

abbrev pub ghost-header_of : goal.ghost-header_of
ghost-header_of g a = g.begun
