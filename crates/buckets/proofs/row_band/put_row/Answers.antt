use Rattle.std.proofs.Common.{◌≡◌, ◌∙◌, ◌+◌, ◌%◌, ◌≤◌, sym, ap, subst, arith, rules, ℕ, List}
use Rattle.std.proofs.lemmas.Grind.{common_steps}
use Rattle.std.specs.Prelude.{All}
use Rattle.outside.proofs.Puts.{on_err}
use Rattle.outside.specs.Frames.{PutsAll, PutsFront}
use Rattle.scene.specs.Scene.{FrameValue}
use Rattle.scene.specs.Settings.{OptionValues}
use Rattle.filter_ppm.specs.Levels.{band}
use Rattle.filter_ppm.specs.Bands.{rows}
use Rattle.filter_ppm.proofs.Within.{pixels_within}
use Rattle.buckets.specs.TileWalk.{format_in, bucket_of}
use Rattle.buckets.specs.Rows.{film}
use Rattle.buckets.proofs.BucketRows.{columns, columns_as, in_same_row, at_row_end}
use Rattle.buckets.proofs.RowBytes.{row_kept, row_put, row_is, rows_in_part, row_in_part}
use Rattle.buckets.proofs.row_band.put_row.Goals as goal

pub returns-then-at-columns-ne0 : goal.returns-then-at-columns-ne0
returns-then-at-columns-ne0 g c =
    let d = g.begun.drawing in
    let q = c.requires.1 in
    let same : c.columns_of-columns.result ≡ columns d = c.columns_of-columns.ensures.value ∙ columns_as d c.args.shown.now.limits.bucket c.args.shown.now.frame.now q.0.drawn.side q.0.drawn.frame in
    record {
      open' = q.1.1.open';
      ok = row_kept g.begun c.args.at (g.O.FrameSink.written c.args.sink.now)
          (in_same_row d c.args.at q.0.drawn.drawable q.0.at' (λ e. c.if-at-columns-ne0.true (ap (λ (k : ℕ). (c.args.at + 1) % k) same ∙ e))) q.1.1.has;
      err = tt;
      later = omega arith;
      failed = search rules;
    }

pub band_bytes-requires : goal.band_bytes-requires
band_bytes-requires g c =
    let d = g.begun.drawing in
    let q = c.requires.1 in
    let h = q.0.drawn.drawable in
    let same : c.columns_of-columns.result ≡ columns d = c.columns_of-columns.ensures.value ∙ columns_as d c.args.shown.now.limits.bucket c.args.shown.now.frame.now q.0.drawn.side q.0.drawn.frame in
    let ends = at_row_end d c.args.at h q.0.at' (ap (λ (k : ℕ). (c.args.at + 1) % k) (sym same) ∙ c.if-at-columns-ne0.false) in
    let options : c.frame.inside.options ≡ d.frame.options = ap (λ (f : FrameValue). f.options) (c.frame.view_is ∙ q.0.drawn.frame) in
    let all : All (λ p. All (λ v. v ≤ d.frame.options.one) p) c.args.row.now =
    subst (λ (ps : List (List ℕ)). All (λ p. All (λ v. v ≤ d.frame.options.one) p) ps) (sym (row_is d c.args.at c.args.row.now h q.0.at' q.1.0 ends))
    (pixels_within (film d) h.options.order h.options.within (rows (format_in d.frame) (bucket_of d c.args.at).top (bucket_of d c.args.at).bottom)) in
    subst (λ (o : OptionValues). All (λ p. All (λ v. v ≤ o.one) p) c.args.row.now) (sym options) all

pub returns-in_err-bytes : goal.returns-in_err-bytes
returns-in_err-bytes g c =
    let q = c.requires.1 in
    record {
      open' = q.1.1.open';
      ok = search rules;
      err = on_err _ _ (rows_in_part g.begun c.args.at (g.O.FrameSink.written c.args.sink.now) q.0.drawn.drawable q.1.1.has);
      later = omega arith;
      failed = grind (arith, common_steps);
    }

pub returns-in_err-put_all : goal.returns-in_err-put_all
returns-in_err-put_all g c =
    let d = g.begun.drawing in
    let q = c.requires.1 in
    let h = q.0.drawn.drawable in
    let same : c.columns_of-columns.result ≡ columns d = c.columns_of-columns.ensures.value ∙ columns_as d c.args.shown.now.limits.bucket c.args.shown.now.frame.now q.0.drawn.side q.0.drawn.frame in
    let ends = at_row_end d c.args.at h q.0.at' (ap (λ (k : ℕ). (c.args.at + 1) % k) (sym same) ∙ c.if-at-columns-ne0.false) in
    let options : c.frame.inside.options ≡ d.frame.options = ap (λ (f : FrameValue). f.options) (c.frame.view_is ∙ q.0.drawn.frame) in
    let bytes = c.deref.ensures.value ∙ c.in_ok-bytes.ensures ∙ ap (λ (o : OptionValues). band o.one c.args.row.now) options in
    record {
      open' = c.put_all.ensures.open;
      ok = search rules;
      err = on_err _ _ (row_in_part g.begun c.args.at c.args.row.now (g.O.FrameSink.written c.args.sink.now) (g.O.FrameSink.written c.put_all.new.frames) h q.0.at' q.1.0 ends q.1.1.has
          (subst (λ (b : List ℕ). PutsFront b (g.O.FrameSink.written c.args.sink.now) (g.O.FrameSink.written c.put_all.new.frames)) bytes c.in_err-put_all.ensures.err));
      later = c.put_all.ensures.cause.later;
      failed = λ h. c.in_err-put_all.ensures.cause.failed;
    }

pub returns : goal.returns
returns g c =
    let d = g.begun.drawing in
    let q = c.requires.1 in
    let h = q.0.drawn.drawable in
    let same : c.columns_of-columns.result ≡ columns d = c.columns_of-columns.ensures.value ∙ columns_as d c.args.shown.now.limits.bucket c.args.shown.now.frame.now q.0.drawn.side q.0.drawn.frame in
    let ends = at_row_end d c.args.at h q.0.at' (ap (λ (k : ℕ). (c.args.at + 1) % k) (sym same) ∙ c.if-at-columns-ne0.false) in
    let options : c.frame.inside.options ≡ d.frame.options = ap (λ (f : FrameValue). f.options) (c.frame.view_is ∙ q.0.drawn.frame) in
    let bytes = c.deref.ensures.value ∙ c.in_ok-bytes.ensures ∙ ap (λ (o : OptionValues). band o.one c.args.row.now) options in
    record {
      open' = c.put_all.ensures.open;
      ok = row_put g.begun c.args.at c.args.row.now (g.O.FrameSink.written c.args.sink.now) (g.O.FrameSink.written c.put_all.new.frames) h q.0.at' q.1.0 ends q.1.1.has
          (subst (λ (b : List ℕ). PutsAll b (g.O.FrameSink.written c.args.sink.now) (g.O.FrameSink.written c.put_all.new.frames)) bytes c.in_ok-put_all.ensures.ok);
      err = tt;
      later = c.put_all.ensures.cause.later;
      failed = search rules;
    }
