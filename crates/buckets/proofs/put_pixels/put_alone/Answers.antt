use Rattle.std.proofs.Common.{◌∙◌, subst, arith, rules, List, ℕ}
use Rattle.std.proofs.lemmas.Grind.{common_steps}
use Rattle.outside.proofs.Puts.{on_err}
use Rattle.outside.specs.Frames.{PutsAll, PutsFront}
use Rattle.buckets.proofs.SharePuts.{puts_part, alone_put, alone_part}
use Rattle.buckets.proofs.put_pixels.put_alone.Goals as goal

pub returns-in_err-bytes-clause-sink : goal.returns-in_err-bytes-clause-sink
returns-in_err-bytes-clause-sink g c =
    let q = c.requires.1 in
    let low = q.1.0.of.at' in
    record {
      open' = q.1.1.open';
      ok = search rules;
      err = on_err _ _ (puts_part g.begun c.args.at (g.O.FrameSink.written c.args.sink.now) q.1.0.of.drawn.drawable (omega (arith, low)) q.1.1.has);
      later = omega arith;
      failed = grind (arith, common_steps);
    }

pub returns-in_err-put_all-clause-sink : goal.returns-in_err-put_all-clause-sink
returns-in_err-put_all-clause-sink g c =
    let q = c.requires.1 in
    let old = g.O.FrameSink.written c.args.sink.now in
    let new = g.O.FrameSink.written c.put_all.new.frames in
    record {
      open' = c.put_all.ensures.open;
      ok = search rules;
      err = on_err _ _ (alone_part g.begun c.args.at q.0.0 q.0.1 old new q.0.2 q.1.0.drawn q.1.0.of.at' q.1.1.has
          (subst (λ (b : List ℕ). PutsFront b old new) (c.deref.ensures.value ∙ c.in_ok-bytes.ensures.bytes) c.in_err-put_all.ensures.err));
      later = c.put_all.ensures.cause.later;
      failed = λ h. c.in_err-put_all.ensures.cause.failed;
    }

pub returns-clause-sink : goal.returns-clause-sink
returns-clause-sink g c =
    let q = c.requires.1 in
    let old = g.O.FrameSink.written c.args.sink.now in
    let new = g.O.FrameSink.written c.put_all.new.frames in
    record {
      open' = c.put_all.ensures.open;
      ok = alone_put g.begun c.args.at q.0.0 q.0.1 old new q.0.2 q.1.0.drawn q.1.1.has (subst (λ (b : List ℕ). PutsAll b old new) (c.deref.ensures.value ∙ c.in_ok-bytes.ensures.bytes) c.in_ok-put_all.ensures.ok);
      err = tt;
      later = c.put_all.ensures.cause.later;
      failed = search rules;
    }
