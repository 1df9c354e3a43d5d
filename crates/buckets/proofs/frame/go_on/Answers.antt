use Rattle.std.proofs.Common.{◌≡◌, ◌∙◌, ◌<◌, ◌≤◌, sym, ap, subst, arith, rules, true, ℕ, [], List, None}
use Rattle.std.proofs.lemmas.Grind.{common_steps}
use Rattle.outside.proofs.Stepping.{rose_after}
use Rattle.outside.proofs.Puts.{on_err}
use Rattle.scene.specs.Scene.{FrameValue}
use Rattle.filter_ppm.specs.Bands.{rect_with}
use Rattle.grid_epoch.specs.Kept.{points_in}
use Rattle.buckets.specs.TileWalk.{bucket_of, draws, tile_count, tile_rect}
use Rattle.buckets.specs.Standing.{Going, next_epoch, to_come}
use Rattle.buckets.specs.Rows.{HasRow, PutsTo, TellsSamples}
use Rattle.buckets.specs.Progress.{IsIn}
use Rattle.buckets.proofs.Going.{goes_shaded, goes_whole, goes_done}
use Rattle.buckets.proofs.SharePuts.{puts_part}
use Rattle.buckets.proofs.StepsOn.{is_none, is_not_none}
use Rattle.buckets.proofs.frame.go_on.Goals as goal

pub returns-in_err-fill-clause-sink : goal.returns-in_err-fill-clause-sink
returns-in_err-fill-clause-sink g c =
    let i = c.loop-progress.invariant in
    record {
      open' = i.open';
      ok = search rules;
      err = on_err _ _ (puts_part g.at_epoch.begun c.loop-progress.progress.drawing.at (g.O.FrameSink.written c.loop-progress.sink) c.requires.1.0.drawable i.stands.within i.put);
      later = i.later;
      failed = grind (arith, common_steps);
    }

pub returns-in_err-fill-clause-advances : goal.returns-in_err-fill-clause-advances
returns-in_err-fill-clause-advances g c =
    let i = c.loop-progress.invariant in
    let fills = c.in_err-fill.ensures in
    record {
      within = search rules;
      full = search rules;
      ended = search rules;
      samples = search rules;
      shaded = on_err _ _ fills.part;
      keeps = record { set = fills.keeps.set ∙ i.set; textures = fills.keeps.textures ∙ i.textures };
      epochs = i.epochs;
      points = i.points;
    }

pub returns-then-is_some-clause-advances : goal.returns-then-is_some-clause-advances
returns-then-is_some-clause-advances g c =
    let e = g.at_epoch in
    let d = e.begun.drawing in
    let old = c.loop-progress.progress in
    let new = c.fill.new.self in
    let q = c.requires.1.0 in
    let i = c.loop-progress.invariant in
    let stands = i.stands in
    let fills = c.in_ok-fill.ensures in
    let at' : new.at ≡ old.drawing.at = fills.same in
    let some : (new.next ≡ None) → ⊥ = is_not_none new.next (sym c.is_some.ensures ∙ c.if-is_some.true) in
    let samples : TellsSamples e.begun new.at old.report.most_samples = subst (λ (k : ℕ). TellsSamples e.begun k old.report.most_samples) (sym at') stands.samples in
    let there : old.drawing.at < tile_count d = (let t = c.loop-progress-test.true in let n = q.tiles in omega (arith, t, n)) in
    record {
      within = omega (arith, at', there);
      full = λ low.
          (let inside : IsIn e old c.loop-progress.epoch.kept c.loop-progress.shop.count = stands.going there in
          record {
            within = omega (arith, low);
            format = stands.format;
            sights = fills.leaves ∙ q.frame;
            samples = samples;
            going = λ _. record {
              rect = ap (λ (r : List ℕ). rect_with r) fills.rect ∙ inside.rect ∙ ap (tile_rect d) (sym at');
              drawn = subst (λ (k : ℕ). draws d k ≡ true) (sym at') inside.drawn;
              row = subst (λ (k : ℕ). HasRow d k (bucket_of d k).left old.row.items) (sym at') inside.row;
              going = subst (λ (f : FrameValue). Going (next_epoch (points_in c.fill.new.epoch.kept) e) new.at new.tile new.next (to_come f new.leaves.number new.leaves.pieces) [] c.fill.new.shop.count) q.frame (fills.full some);
            };
            ended = λ is. absurd (omega (arith, is, low));
          });
      ended = λ is. absurd (omega (arith, is, at', there));
      samples = samples;
      shaded = tt;
      keeps = record { set = fills.keeps.set ∙ i.set; textures = fills.keeps.textures ∙ i.textures };
      epochs = i.epochs;
      points = i.points;
    }

pub returns-then-is_some-clause-sink : goal.returns-then-is_some-clause-sink
returns-then-is_some-clause-sink g c =
    let i = c.loop-progress.invariant in
    record {
      open' = i.open';
      ok = subst (λ (k : ℕ). PutsTo g.at_epoch.begun k (g.O.FrameSink.written c.loop-progress.sink)) (sym c.fill.ensures.same) i.put;
      err = tt;
      later = i.later;
      failed = search rules;
    }

pub finish_tile-requires : goal.finish_tile-requires
finish_tile-requires g c = λ κs h.
    let e = g.at_epoch in
    let d = e.begun.drawing in
    let old = c.loop-progress.progress in
    let new = c.fill.new.self in
    let q = c.requires.1.0 in
    let i = c.loop-progress.invariant in
    let at' : new.at ≡ old.drawing.at = c.fill.ensures.same in
    let low : old.drawing.at < tile_count d = (let t = c.loop-progress-test.true in let n = q.tiles in omega (arith, t, n)) in
    let inside : IsIn e old c.loop-progress.epoch.kept c.loop-progress.shop.count = i.stands.going low in
    let goes = c.in_ok-fill.ensures.ended (is_none new.next (sym c.is_some.ensures ∙ c.if-is_some.false)) in (
      h,
      (
        q,
        (
          record {
            at' = omega (arith, low, at');
            here = subst (λ (k : ℕ). draws d k ≡ true) (sym at') inside.drawn;
            format = i.stands.format;
            grid = goes.grid;
            sights = c.fill.ensures.leaves ∙ q.frame;
            row = subst (λ (k : ℕ). HasRow d k (bucket_of d k).left old.row.items) (sym at') inside.row;
            samples = subst (λ (k : ℕ). TellsSamples e.begun k old.report.most_samples) (sym at') i.stands.samples;
          },
          (
            goes_whole e new.at new.tile c.fill.new.epoch.kept c.fill.new.shop.count goes,
            record { open' = i.open'; has = subst (λ (k : ℕ). PutsTo e.begun k (g.O.FrameSink.written c.loop-progress.sink)) (sym at') i.put },
          ),
        ),
      ),
    )

pub loop-progress-preserved : goal.loop-progress-preserved
loop-progress-preserved g c =
    let e = g.at_epoch in
    let new = c.fill.new.self in
    let fills = c.in_ok-fill.ensures in
    let goes = fills.ended (is_none new.next (sym c.is_some.ensures ∙ c.if-is_some.false)) in
    let i = c.loop-progress.invariant in
    let finished = c.in_ok-finish_tile.ensures in
    record {
      stands = finished.goes.stands c.fill.new.epoch.kept c.fill.new.shop.count (goes_done e new.at new.tile c.fill.new.epoch.kept c.fill.new.shop.count goes);
      limit = fills.limit ∙ i.limit;
      set = fills.keeps.set ∙ i.set;
      textures = fills.keeps.textures ∙ i.textures;
      epochs = finished.goes.epochs ∙ i.epochs;
      points = finished.goes.points ∙ i.points;
      open' = finished.sink.open';
      put = finished.sink.ok;
      later = (let a = i.later in let b = finished.sink.later in omega (arith, a, b));
    }

pub loop-progress-smaller : goal.loop-progress-smaller
loop-progress-smaller g c =
    let from = c.in_ok-finish_tile.ensures.goes.at'.from in
    let within = c.in_ok-finish_tile.ensures.goes.at'.within in
    let at' = c.fill.ensures.same in
    let t = c.loop-progress-test.true in
    omega (arith, from, at', t)

pub returns-in_err-finish_tile-clause-advances : goal.returns-in_err-finish_tile-clause-advances
returns-in_err-finish_tile-clause-advances g c =
    let e = g.at_epoch in
    let new = c.fill.new.self in
    let i = c.loop-progress.invariant in
    let fills = c.in_ok-fill.ensures in
    let goes = fills.ended (is_none new.next (sym c.is_some.ensures ∙ c.if-is_some.false)) in
    let further = c.finish_tile.ensures.goes in
    record {
      within = search rules;
      full = search rules;
      ended = search rules;
      samples = search rules;
      shaded = on_err _ _ (goes_shaded e new.at new.tile [] c.fill.new.epoch.kept c.fill.new.shop.count goes);
      keeps = record { set = fills.keeps.set ∙ i.set; textures = fills.keeps.textures ∙ i.textures };
      epochs = further.epochs ∙ i.epochs;
      points = further.points ∙ i.points;
    }

pub returns-in_err-finish_tile-clause-sink : goal.returns-in_err-finish_tile-clause-sink
returns-in_err-finish_tile-clause-sink g c =
    let i = c.loop-progress.invariant in
    let put = c.in_err-finish_tile.ensures.sink in
    record {
      open' = put.open';
      ok = search rules;
      err = on_err _ _ put.err;
      later = (let a = i.later in let b = put.later in omega (arith, a, b));
      failed = λ h. rose_after _ _ _ i.later (put.failed (search rules));
    }

pub returns-clause-advances : goal.returns-clause-advances
returns-clause-advances g c =
    let i = c.loop-progress.invariant in
    let past : tile_count g.at_epoch.begun.drawing ≤ c.loop-progress.progress.drawing.at = (let t = c.loop-progress-test.false in let n = c.requires.1.0.tiles in omega (arith, t, n)) in
    record {
      within = i.stands.within;
      full = λ low. absurd (omega (arith, low, past));
      ended = i.stands.ended;
      samples = i.stands.samples;
      shaded = tt;
      keeps = record { set = i.set; textures = i.textures };
      epochs = i.epochs;
      points = i.points;
    }
