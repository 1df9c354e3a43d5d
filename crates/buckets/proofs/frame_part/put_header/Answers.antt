use Rattle.std.proofs.Common.{◌∙◌, subst, arith, rules, List, ℕ}
use Rattle.std.proofs.lemmas.Grind.{common_steps}
use Rattle.outside.specs.Frames.{PutsAll}
use Rattle.outside.proofs.Puts.{on_err}
use Rattle.buckets.proofs.RowBytes.{front_none}
use Rattle.buckets.proofs.frame_part.put_header.Goals as goal

pub returns-in_err-bytes : goal.returns-in_err-bytes
returns-in_err-bytes g c = record {
  open' = c.requires.1.1;
  ok = search rules;
  err = on_err _ _ (front_none _ _);
  later = omega arith;
  failed = grind (arith, common_steps);
}

pub returns : goal.returns
returns g c =
    let old = g.O.FrameSink.written c.args.sink.now in
    let new = g.O.FrameSink.written c.put_all.new.frames in
    record {
      open' = c.put_all.ensures.open;
      ok = subst (λ (b : List ℕ). PutsAll b old new) (c.deref.ensures.value ∙ c.in_ok-bytes.ensures) c.in_ok-put_all.ensures.ok;
      err = tt;
      later = c.put_all.ensures.cause.later;
      failed = search rules;
    }
