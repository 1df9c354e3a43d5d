use Rattle.std.proofs.Common.{◌≡◌, ◌∙◌, ◌+◌, ◌<◌, sym, subst, arith, refl, true, ℕ}
use Rattle.buckets.specs.declared.frame.Progress.{Progress}
use Rattle.buckets.specs.TileWalk.{bucket_of, draws, tile_count}
use Rattle.buckets.specs.Standing.{Before, IsFirstDrawn}
use Rattle.buckets.specs.Rows.{HasRow}
use Rattle.buckets.proofs.BucketPixels.{grid_xs, grid_ys}
use Rattle.buckets.proofs.Skipping.{before_skips, tells_skip}
use Rattle.buckets.proofs.SharePuts.{row_skip}
use Rattle.buckets.proofs.StepsOn.{stands_in, stands_behind}
use Rattle.buckets.proofs.frame.next_tile.Goals as goal

pub returns-then-next-shown : goal.returns-then-next-shown
returns-then-next-shown g c =
    let e = g.at_epoch in
    let there = c.requires.1 in
    let next = c.tile_behind-next.result in
    let f = c.tile_behind-next.ensures in
    let old = c.args.progress.now in
    let p : Progress = record { drawing = record { at = next; rect = old.drawing.rect; tile = old.drawing.tile; leaves = old.drawing.leaves; next = old.drawing.next }; filter = old.filter; row = old.row; report = old.report } in
    record {
      at' = f;
      stands = λ kept count before.
          stands_behind e p kept count (before_skips e (old.drawing.at + 1) next kept count f before) (c.if-next-shown.true ∙ c.requires.0.tiles) there.format there.sights
          (tells_skip e.begun (old.drawing.at + 1) next old.report.most_samples f there.samples);
      epochs = refl;
      points = refl;
    }

pub next_row-requires : goal.next_row-requires
next_row-requires g c =
    let q = c.requires.0 in
    let f = c.tile_behind-next.ensures in
    let from = f.from in
    let within = f.within in
    let n = q.tiles in
    let other = c.if-next-shown.false in
    (record { drawn = q; at' = omega (arith, from, within, n, other) }, c.requires.1.row)

pub begin-requires : goal.begin-requires
begin-requires g c =
    let d = g.at_epoch.begun.drawing in
    let q = c.requires.0 in
    let grid = c.requires.1.grid in
    let n = c.args.progress.now.drawing.at in
    let old = c.args.progress.now.drawing.tile.grid in
    let low : c.tile_behind-next.result < tile_count d = (let t = q.tiles in let w = c.tile_behind-next.ensures.within in let f = c.if-next-shown.false in omega (arith, t, w, f)) in
    (record { drawn = q; at' = low }, ((grid_xs d n old grid, grid_ys d n old grid), c.requires.1.sights))

pub returns : goal.returns
returns g c =
    let e = g.at_epoch in
    let d = e.begun.drawing in
    let q = c.requires.0 in
    let there = c.requires.1 in
    let old = c.args.progress.now in
    let n = old.drawing.at in
    let next = c.tile_behind-next.result in
    let f = c.tile_behind-next.ensures in
    let new = c.begin.new.self in
    let row = c.next_row.new.row in
    let p : Progress = record { drawing = new; filter = old.filter; row = row; report = old.report } in
    let begins = c.in_ok-begin.ensures in
    let at' : new.at ≡ next = begins.same in
    let low : next < tile_count d = (let t = q.tiles in let w = f.within in let o = c.if-next-shown.false in omega (arith, t, w, o)) in
    let first = subst (λ (k : ℕ). IsFirstDrawn d (n + 1) k) (sym at') f in
    record {
      at' = first;
      stands = λ kept count before.
          stands_in e p kept count q.drawable (subst (λ (k : ℕ). Before e k kept count) (sym at') (before_skips e (n + 1) next kept count f before)) (omega (arith, low, at')) (subst (λ (k : ℕ). draws d k ≡ true) (sym at') (f.drawn low))
          there.format (begins.leaves ∙ there.sights) begins.rect begins.grid begins.empty begins.next
          (subst (λ (k : ℕ). HasRow d k (bucket_of d k).left row.items) (sym at') (row_skip d (n + 1) next row.items f c.in_ok-next_row.ensures))
          (tells_skip e.begun (n + 1) new.at old.report.most_samples first there.samples);
      epochs = refl;
      points = refl;
    }
