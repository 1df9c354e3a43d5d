use Rattle.buckets.proofs.frame_part.put_part.Given as goal

abbrev pub ghost-put_header : goal.ghost-put_header
ghost-put_header g a = g.begun

abbrev pub ghost-put_buckets : goal.ghost-put_buckets
ghost-put_buckets g a = record g.begun { written = g.O.FrameSink.written a.sink.now }
