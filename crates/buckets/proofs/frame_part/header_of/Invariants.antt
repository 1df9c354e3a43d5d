use Rattle.buckets.proofs.frame_part.header_of.Given as goal

abbrev pub ghost-drawn_count : goal.ghost-drawn_count
ghost-drawn_count g a = g.begun
