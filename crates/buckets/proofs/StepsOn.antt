-- How a drawing goes from tile to tile.
use Rattle.std.proofs.Common.{◌≡◌, Bool, ℕ, suc, ◌+◌, ◌-◌, ◌*◌, ◌<◌, ◌≤◌, max, arith, refl, sym, ◌∙◌, ap, subst, List, [], Option, Some, None, true, false, cond}
use Rattle.std.specs.Prelude.{is_some}
use Rattle.patches.specs.Parts.{Part}
use Rattle.hider.specs.declared.seen_grid.SeenGrid.{SeenGrid}
use Rattle.bound_split.specs.declared.walk.Leaf.{Leaf}
use Rattle.bound_split.specs.Lengths.{most_below}
use Rattle.hider.specs.declared.sample_grid.SampleGrid.{SampleGrid}
use Rattle.hider.specs.Tiles.{Shows, sample_count}
use Rattle.filter_ppm.specs.Bands.{rect_with}
use Rattle.buckets.specs.declared.frame.Progress.{Progress}
use Rattle.buckets.specs.declared.limits.Report.{Report}
use Rattle.std.specs.Prelude.{ℤ}
use Rattle.buckets.specs.Sampled.{TellsBehind}
use Rattle.buckets.specs.Pictures.{frame_leaves}
use Rattle.buckets.specs.TileWalk.{Drawing, nothing, in_new_epoch, format_in, bucket_of, draws, tile_count, tile_rect, tile_grid, samples_at, past_tiles, tile_walk}
use Rattle.buckets.specs.Standing.{Begun, InEpoch, IsDrawable, Before, GivesNext, to_come, shows_in}
use Rattle.buckets.specs.Rows.{film, IsRowTo, HasRow, TellsSamples}
use Rattle.buckets.specs.Progress.{Stands, next_of, report_before}
use Rattle.filter_ppm.specs.Bands.{ArePixels}
use Rattle.buckets.proofs.BucketRows.{wide, GoesOnRow}
use Rattle.buckets.proofs.Going.{goes_begun, goes_next, goes_epochs}
use Rattle.buckets.proofs.Laws.{lawful}
use Rattle.buckets.proofs.Passing.{gives_as}

-- in a tile that has just begun
pub stands_in : (e : InEpoch) (p : Progress) (kept : List (Part × SeenGrid)) (count : ℕ) → IsDrawable e.begun.drawing → Before e p.drawing.at kept count → p.drawing.at < tile_count e.begun.drawing → draws e.begun.drawing p.drawing.at ≡ true
    → p.filter ≡ format_in e.begun.drawing.frame → p.drawing.leaves.sights ≡ e.begun.drawing.frame → rect_with p.drawing.rect ≡ tile_rect e.begun.drawing p.drawing.at → p.drawing.tile.grid ≡ tile_grid e.begun.drawing p.drawing.at → Shows p.drawing.tile (λ s. [])
    → ((back : ℤ → Bool) → TellsBehind p.drawing.tile back → GivesNext e.begun.drawing.frame (shows_in e.begun.drawing.frame (tile_rect e.begun.drawing p.drawing.at) back) p.drawing.next (frame_leaves e.begun.drawing.frame) (to_come e.begun.drawing.frame p.drawing.leaves.number p.drawing.leaves.pieces))
    → HasRow e.begun.drawing p.drawing.at (bucket_of e.begun.drawing p.drawing.at).left p.row.items → TellsSamples e.begun p.drawing.at p.report.most_samples → Stands e p kept count
stands_in e p kept count h before low drawn format sights rect grid empty gives row samples =
    let d = e.begun.drawing in
    record {
      within = omega (arith, low);
      format = format;
      sights = sights;
      samples = samples;
      going = λ l. record {
        rect = rect;
        drawn = drawn;
        row = row;
        going =
            let g = goes_begun e p.drawing.at p.drawing.tile kept count before low drawn grid empty in
            goes_next p.drawing.next e p.drawing.at p.drawing.tile (frame_leaves d.frame) (to_come d.frame p.drawing.leaves.number p.drawing.leaves.pieces) kept count (lawful d p.drawing.at h) g
            (gives_as p.drawing.next e p.drawing.at d.frame (tile_rect d p.drawing.at) p.drawing.tile g.shown (λ v. frame_leaves v) (λ v. to_come v p.drawing.leaves.number p.drawing.leaves.pieces) refl refl g.grid g.shows gives);
      };
      ended = λ is. absurd (omega (arith, is, low));
    }

-- behind the last tile
pub stands_behind : (e : InEpoch) (p : Progress) (kept : List (Part × SeenGrid)) (count : ℕ) → Before e p.drawing.at kept count → p.drawing.at ≡ tile_count e.begun.drawing → p.filter ≡ format_in e.begun.drawing.frame → p.drawing.leaves.sights ≡ e.begun.drawing.frame
    → TellsSamples e.begun p.drawing.at p.report.most_samples → Stands e p kept count
stands_behind e p kept count before is format sights samples = record {
  within = omega (arith, is);
  format = format;
  sights = sights;
  samples = samples;
  going = λ l. absurd (omega (arith, is, l));
  ended = λ _. before;
}

-- another report tells of the same samples
pub stands_told : (e : InEpoch) (p : Progress) (r : Report) (kept : List (Part × SeenGrid)) (count : ℕ) → r.most_samples ≡ p.report.most_samples → Stands e p kept count
    → Stands e (record { drawing = p.drawing; filter = p.filter; row = p.row; report = r }) kept count
stands_told e p r kept count same s = record {
  within = s.within;
  format = s.format;
  sights = s.sights;
  samples = same ∙ s.samples;
  going = λ l. (let i = s.going l in record { rect = i.rect; drawn = i.drawn; row = i.row; going = i.going });
  ended = s.ended;
}

-- before the first one
pub before_first : (b : Begun) → Before (next_of b (report_before b)) 0 [] b.count
unfolding tile_walk
before_first b =
    let none : tile_count b.drawing - 0 ≡ tile_count b.drawing = omega arith in
    record {
      counts = in_new_epoch nothing;
      grids = tt;
      keeps = record { pieces = refl; points = refl };
      counted = record { shadings = omega arith; epochs = omega arith; most = omega arith };
      walk = ap (λ k. past_tiles b.drawing k 0 (in_new_epoch nothing)) none;
    }

-- ---- reports
pub tells_more : (b : Begun) (n n' most s m : ℕ) (g : SampleGrid) → TellsSamples b n most → draws b.drawing n ≡ true → s ≡ sample_count g → g ≡ tile_grid b.drawing n → n' ≡ n + 1 → m ≡ max most s → TellsSamples b n' m
unfolding most_below
tells_more b n n' most s m g tells drawn is grid next more =
    let here : s ≡ samples_at b.drawing n = is ∙ ap (λ (q : SampleGrid). sample_count q) grid ∙ ap (λ (h : Bool). cond h (sample_count (tile_grid b.drawing n)) 0) (sym drawn) in
    let one : n' ≡ suc n = omega (arith, next) in
    let step : most_below n' (samples_at b.drawing) ≡ max (most_below n (samples_at b.drawing)) (samples_at b.drawing n) = ap (λ k. most_below k (samples_at b.drawing)) one in
    omega (arith, tells, here, step, more)

pub tells_none : (b : Begun) (n most : ℕ) → n ≡ 0 → most ≡ b.most_samples → TellsSamples b n most
unfolding most_below
tells_none b n most none is =
    let zero' : most_below n (samples_at b.drawing) ≡ 0 = ap (λ k. most_below k (samples_at b.drawing)) none in
    omega (arith, is, zero')

-- ---- rows
pub row_goes_on : (d : Drawing) (n : ℕ) (row : List (List ℕ)) → GoesOnRow d n → IsRowTo d n (bucket_of d n).right row → IsRowTo d (n + 1) (bucket_of d (n + 1)).left row
row_goes_on d n row on is = record {
  size = is.size ∙ ap (λ b. wide d * (b - (bucket_of d n).top)) (sym on.bottom) ∙ ap (λ t. wide d * ((bucket_of d (n + 1)).bottom - t)) (sym on.top);
  pixels = subst (λ t. ArePixels (film d) t (bucket_of d (n + 1)).bottom (bucket_of d (n + 1)).left row) (sym on.top)
      (subst (λ b. ArePixels (film d) (bucket_of d n).top b (bucket_of d (n + 1)).left row) (sym on.bottom)
      (subst (λ l. ArePixels (film d) (bucket_of d n).top (bucket_of d n).bottom l row) (sym on.left) is.pixels));
}

-- ---- epochs
pub is_none : (o : Option Leaf) → is_some o ≡ false → o ≡ None
is_none None h = refl
is_none (Some leaf) h = absurd (cc)

pub is_not_none : (o : Option Leaf) → is_some o ≡ true → o ≡ None → ⊥
is_not_none o h e = cc (ap (λ (q : Option Leaf). is_some q) e)

-- an epoch of the walk is one of at most so many
pub stands_epochs : (e : InEpoch) (p : Progress) (kept : List (Part × SeenGrid)) (count : ℕ) → p.drawing.at < tile_count e.begun.drawing → Stands e p kept count
    → (e.begun.epochs ≤ e.epochs) × (e.epochs ≤ e.begun.epochs + (tile_walk e.begun.drawing).epochs)
stands_epochs e p kept count low s =
    let going = (s.going low).going in
    let is = going.goes.counted.epochs in
    (omega (arith, is), goes_epochs e p.drawing.at p.drawing.tile going.rest kept count going.goes)
