use Rattle.std.proofs.Common.{◌≡◌, ◌∙◌, ◌+◌, ◌-◌, ◌<◌, ◌≤◌, sym, ap, subst, arith, rules, ℕ, refl, [], Result, Ok, Err}
use Rattle.std.specs.Prelude.{IsErrAnd, OnOk}
use Rattle.std.proofs.lemmas.Result.{err_from_is_err_and}
use Rattle.buckets.specs.declared.limits.DrawFault.{DrawFault}
use Rattle.std.proofs.lemmas.Grind.{common_steps}
use Rattle.outside.proofs.Stepping.{rose_after}
use Rattle.outside.proofs.Puts.{on_err}
use Rattle.buckets.specs.declared.limits.Report.{Report}
use Rattle.buckets.specs.TileWalk.{tile_count, tile_walk}
use Rattle.buckets.specs.Rows.{PutsTo}
use Rattle.buckets.specs.Progress.{Stands, Done, DoneInPart, next_of, report_before}
use Rattle.buckets.proofs.Bounds.{few_shadings, few_epochs}
use Rattle.buckets.proofs.Stock.{keeps_stock}
use Rattle.buckets.proofs.SharePuts.{puts_begin, puts_end, puts_part}
use Rattle.buckets.proofs.StepsOn.{stands_epochs}
use Rattle.buckets.proofs.frame.draw_tiles.Goals as goal

not_ok : {T E : Type 0} (r : Result T E) (Q : E → Type 0) (P : Type 0) → IsErrAnd r Q → OnOk r P
not_ok (Ok u) Q P is = absurd is
not_ok (Err e) Q P is = tt

pub returns-in_err-progress-clause-sink : goal.returns-in_err-progress-clause-sink
returns-in_err-progress-clause-sink g c =
    let q = c.requires.1 in
    let sink = q.1.1.1.1 in
    let now = g.O.FrameSink.written c.args.sink.now in
    let drawable = q.0.drawn.drawable in
    record {
      open' = sink.open';
      ok = search rules;
      err = on_err _ _ (puts_part g.begun c.args.first now drawable q.1.0.within (puts_begin g.begun c.args.first now drawable q.1.0 sink.has));
      later = omega arith;
      failed = grind (arith, common_steps);
    }

pub loop-progress-init : goal.loop-progress-init
loop-progress-init g c =
    let q = c.requires.1 in
    let b = g.begun in
    let starts = c.in_ok-progress.ensures in
    let p = c.in_ok-progress.progress in
    let now = g.O.FrameSink.written c.args.sink.now in
    let at' : p.drawing.at ≡ c.args.first = starts.at' in
    let some = q.0.at' in
    let shop = q.1.1.0 in
    let sink = q.1.1.1.1 in
    record {
      within = omega (arith, at', some);
      same = q.1.1.1.0 ∙ sym starts.told;
      full = λ low. subst (λ (r : Report). Stands (next_of b r) p [] c.args.shop.now.count) (sym starts.told) (subst (λ (k : ℕ). Stands (next_of b (report_before b)) p [] k) (sym shop.count) starts.stands);
      ended = λ is. absurd (omega (arith, at', is, some));
      set = refl;
      textures = refl;
      open' = sink.open';
      put = subst (λ (k : ℕ). PutsTo b k now) (sym at') (puts_begin b c.args.first now q.0.drawn.drawable q.1.0 sink.has);
      later = omega arith;
    }

pub run_epoch-run-requires : goal.run_epoch-run-requires
run_epoch-run-requires g c = λ κs h.
    let q = c.requires.1 in
    let b = g.begun in
    let i = c.loop-progress.invariant in
    let p = c.loop-progress.progress in
    let low : p.drawing.at < tile_count b.drawing = (let t = c.loop-progress-test.true in let n = q.0.drawn.tiles in omega (arith, t, n)) in
    let few = few_epochs b.drawing q.0.drawn.drawable in
    let most = stands_epochs (next_of b p.report) p [] c.loop-progress.shop.count low (i.full low) in
    let first = q.0.drawn.epochs in
    (h, (q.0.drawn, (keeps_stock c.loop-progress.shop c.args.shop.now i.set i.textures ∙ q.1.1.0.set, (omega (arith, few, most.1, first), (i.full low, record { open' = i.open'; has = i.put })))))

pub loop-progress-preserved : goal.loop-progress-preserved
loop-progress-preserved g c =
    let i = c.loop-progress.invariant in
    let runs = c.in_ok-run.ensures.runs in
    let sink = c.in_ok-run.ensures.sink in
    record {
      within = runs.within;
      same = refl;
      full = runs.full;
      ended = runs.ended;
      set = runs.keeps.set ∙ i.set;
      textures = runs.keeps.textures ∙ i.textures;
      open' = sink.open';
      put = sink.ok;
      later = (let a = i.later in let b = sink.later in omega (arith, a, b));
    }

pub loop-progress-smaller : goal.loop-progress-smaller
loop-progress-smaller g c =
    let q = c.requires.1 in
    let b = g.begun in
    let i = c.loop-progress.invariant in
    let p = c.loop-progress.progress in
    let low : p.drawing.at < tile_count b.drawing = (let t = c.loop-progress-test.true in let n = q.0.drawn.tiles in omega (arith, t, n)) in
    let most = stands_epochs (next_of b p.report) p [] c.loop-progress.shop.count low (i.full low) in
    let next = c.run_epoch-run.ensures.runs.epochs in
    let less : b.epochs + (tile_walk b.drawing).epochs - c.run_epoch-run.new.progress.report.epochs < b.epochs + (tile_walk b.drawing).epochs - p.report.epochs = omega (arith, most.1, next) in
    less

pub returns-in_err-run-clause-draws : goal.returns-in_err-run-clause-draws
returns-in_err-run-clause-draws g c =
    let q = c.requires.1 in
    let b = g.begun in
    let i = c.loop-progress.invariant in
    let p = c.loop-progress.progress in
    let low : p.drawing.at < tile_count b.drawing = (let t = c.loop-progress-test.true in let n = q.0.drawn.tiles in omega (arith, t, n)) in
    let most = stands_epochs (next_of b p.report) p [] c.loop-progress.shop.count low (i.full low) in
    let runs = c.in_err-run.ensures.runs in
    let next = runs.epochs in
    let part : DoneInPart b.drawing b.count c.run_epoch-run.new.shop.count (report_before b) c.run_epoch-run.new.progress.report = record {
      least_shadings = runs.shaded.0;
      shadings = runs.shaded.1;
      least_epochs = omega (arith, most.0, next);
      epochs = omega (arith, most.1, next);
    } in
    record { done = not_ok c.from_residual-in_err-run.result _ _ c.from_residual-in_err-run.ensures.1; part = on_err _ _ part }

pub returns-in_err-run-clause-sink : goal.returns-in_err-run-clause-sink
returns-in_err-run-clause-sink g c =
    let i = c.loop-progress.invariant in
    let put = c.in_err-run.ensures.sink in
    let r = c.from_residual-in_err-run.result in
    let is = c.from_residual-in_err-run.ensures.1 in
    record {
      open' = put.open';
      ok = not_ok r _ _ is;
      err = on_err _ _ put.err;
      later = (let a = i.later in let b = put.later in omega (arith, a, b));
      failed = λ h. (let p = err_from_is_err_and r is in rose_after _ _ _ i.later (put.failed (ap (λ (s : DrawFault). Err s) (sym p.2) ∙ sym p.1 ∙ h)));
    }

pub returns-clause-sink : goal.returns-clause-sink
returns-clause-sink g c =
    let q = c.requires.1 in
    let i = c.loop-progress.invariant in
    let is : c.loop-progress.progress.drawing.at ≡ tile_count g.begun.drawing = (let t = c.loop-progress-test.false in let n = q.0.drawn.tiles in let l = i.within in omega (arith, t, n, l)) in
    record {
      open' = i.open';
      ok = puts_end g.begun c.loop-progress.progress.drawing.at (g.O.FrameSink.written c.loop-progress.sink) q.0.drawn.drawable is i.put;
      err = tt;
      later = i.later;
      failed = search rules;
    }

-- at the end the invariant tells the counts
pub returns-clause-draws : goal.returns-clause-draws
returns-clause-draws g c =
    let q = c.requires.1 in
    let b = g.begun in
    let i = c.loop-progress.invariant in
    let is : c.loop-progress.progress.drawing.at ≡ tile_count b.drawing = (let t = c.loop-progress-test.false in let n = q.0.drawn.tiles in let l = i.within in omega (arith, t, n, l)) in
    record { done = subst (λ (r : Report). Done b.drawing b.count c.loop-progress.shop.count (report_before b) r) (sym i.same) (i.ended is); part = tt }

pub returns-clause-shop : goal.returns-clause-shop
returns-clause-shop g c =
    let q = c.requires.1 in
    let b = g.begun in
    let i = c.loop-progress.invariant in
    let is : c.loop-progress.progress.drawing.at ≡ tile_count b.drawing = (let t = c.loop-progress-test.false in let n = q.0.drawn.tiles in let l = i.within in omega (arith, t, n, l)) in
    let ends = (i.ended is).shadings in
    let few = few_shadings b.drawing q.0.drawn.drawable in
    let same = q.1.1.0.count in
    let less : c.loop-progress.shop.count ≤ c.args.shop.now.count + 4503599627370496 = omega (arith, ends, few, same) in
    record { keeps = record { set = i.set; textures = i.textures }; few = less }

pub returns-clause-few_epochs : goal.returns-clause-few_epochs
returns-clause-few_epochs g c =
    let q = c.requires.1 in
    let b = g.begun in
    let i = c.loop-progress.invariant in
    let is : c.loop-progress.progress.drawing.at ≡ tile_count b.drawing = (let t = c.loop-progress-test.false in let n = q.0.drawn.tiles in let l = i.within in omega (arith, t, n, l)) in
    let ends = (i.ended is).epochs in
    let few = few_epochs b.drawing q.0.drawn.drawable in
    let same : c.args.report.now.epochs ≡ b.epochs = ap (λ (r : Report). r.epochs) q.1.1.1.0 in
    let now : c.loop-progress.report.epochs ≡ c.loop-progress.progress.report.epochs = ap (λ (r : Report). r.epochs) i.same in
    let less : c.loop-progress.report.epochs ≤ c.args.report.now.epochs + 4503599627370496 + 1 = omega (arith, ends, few, same, now) in
    less
