use Rattle.std.proofs.Common.{◌+◌, ◌∙◌, arith, refl, rules}
use Rattle.std.proofs.lemmas.Grind.{common_steps}
use Rattle.outside.proofs.Puts.{on_err}
use Rattle.buckets.proofs.SharePuts.{puts_part, puts_skip}
use Rattle.buckets.proofs.StepsOn.{tells_more}
use Rattle.buckets.proofs.frame.finish_tile.Goals as goal

pub next_tile-requires : goal.next_tile-requires
next_tile-requires g c =
    let q = c.requires.1 in
    let there = q.1.0 in
    let b = g.at_epoch.begun in
    let old = c.args.progress.now in
    let n = old.drawing.at in (
      q.0,
      record {
        at' = there.at';
        here = there.here;
        format = c.in_ok-put_pixels.ensures.format ∙ there.format;
        grid = there.grid;
        sights = there.sights;
        row = c.in_ok-put_pixels.ensures.row;
        samples = tells_more b n (n + 1) old.report.most_samples c.samples-samples.result c.max-progress.result old.drawing.tile.grid there.samples there.here c.samples-samples.ensures there.grid refl c.max-progress.ensures;
      },
    )

pub returns-in_err-next_tile-clause-sink : goal.returns-in_err-next_tile-clause-sink
returns-in_err-next_tile-clause-sink g c =
    let q = c.requires.1 in
    let low = q.1.0.at' in
    let put = c.in_ok-put_pixels.ensures.sink in
    record {
      open' = put.open';
      ok = search rules;
      err = on_err _ _ (puts_part g.at_epoch.begun (c.args.progress.now.drawing.at + 1) (g.O.FrameSink.written c.put_pixels.new.sink) q.0.drawable (omega (arith, low)) put.ok);
      later = put.later;
      failed = grind (arith, common_steps);
    }

pub returns-clause-sink : goal.returns-clause-sink
returns-clause-sink g c =
    let put = c.in_ok-put_pixels.ensures.sink in
    record {
      open' = put.open';
      ok = puts_skip g.at_epoch.begun (c.args.progress.now.drawing.at + 1) c.next_tile.new.progress.drawing.at (g.O.FrameSink.written c.put_pixels.new.sink) c.in_ok-next_tile.ensures.at' put.ok;
      err = tt;
      later = put.later;
      failed = search rules;
    }
