-- Where the drawing of a frame stands, and what it comes to.
use Rattle.std.specs.Prelude.{◌≡◌, ℕ, ◌+◌, ◌^◌, ◌≤◌, ◌<◌, max, true, List, [], Option, slice_index_or, Result, OnOk, OnErr}
use Rattle.patches.specs.Parts.{Part}
use Rattle.hider.specs.declared.seen_grid.SeenGrid.{SeenGrid}
use Rattle.scene.specs.Scene.{FrameValue, SceneValue}
use Rattle.shader_binding.specs.Sets.{SetValue}
use Rattle.displace_shade.specs.Shop.{shop_set}
use Rattle.displace_shade.specs.declared.shop.Shop.{Shop}
use Rattle.grid_epoch.specs.Kept.{EpochValue, points_in}
use Rattle.filter_ppm.specs.Bands.{rect_with}
use Rattle.outside.specs.Sink.{Written}
use Rattle.buckets.specs.declared.limits.DrawFault.{DrawFault}
use Rattle.buckets.specs.declared.limits.Limits.{Limits}
use Rattle.buckets.specs.declared.limits.Report.{Report}
use Rattle.buckets.specs.declared.frame.Progress.{Progress}
use Rattle.buckets.specs.declared.share.Share.{Share}
use Rattle.buckets.specs.declared.share.Share.TheVariants.{Whole, Nth}
use Rattle.buckets.specs.TileWalk.{Drawing, bucket_of, draws, tile_count, tile_rect, tile_grid, tile_walk, format_in, most_points, most_samples}
use Rattle.buckets.specs.Meeting.{meetings}
use Rattle.buckets.specs.LeafSteps.{KeepsSet}
use Rattle.buckets.specs.Standing.{Begun, InEpoch, IsDrawn, IsTile, IsFirstDrawn, Before, Going, ShadesInPart, next_epoch, to_come}
use Rattle.buckets.specs.Rows.{HasRow, TellsSamples}

-- in a tile
pub record IsIn (e : InEpoch) (p : Progress) (kept : List (Part × SeenGrid)) (count : ℕ) : Type 0 where
  pub rect : rect_with p.drawing.rect ≡ tile_rect e.begun.drawing p.drawing.at
  pub drawn : draws e.begun.drawing p.drawing.at ≡ true
  pub row : HasRow e.begun.drawing p.drawing.at (bucket_of e.begun.drawing p.drawing.at).left p.row.items
  pub going : Going e p.drawing.at p.drawing.tile p.drawing.next (to_come e.begun.drawing.frame p.drawing.leaves.number p.drawing.leaves.pieces) kept count

-- in a tile, or behind the last one
pub record Stands (e : InEpoch) (p : Progress) (kept : List (Part × SeenGrid)) (count : ℕ) : Type 0 where
  pub within : p.drawing.at ≤ tile_count e.begun.drawing
  pub format : p.filter ≡ format_in e.begun.drawing.frame
  pub sights : p.drawing.leaves.sights ≡ e.begun.drawing.frame
  pub samples : TellsSamples e.begun p.drawing.at p.report.most_samples
  pub going : p.drawing.at < tile_count e.begun.drawing → IsIn e p kept count
  pub ended : p.drawing.at ≡ tile_count e.begun.drawing → Before e p.drawing.at kept count

-- in the epoch behind those that the report tells
abbrev pub next_of : Begun → Report → InEpoch
next_of b r = record { begun = b; epochs = r.epochs + 1; most_points = r.most_points }

-- a share of a frame of a scene within limits, and the whole frame
abbrev pub share_of : SceneValue → SetValue → FrameValue → Limits → Share → Drawing
share_of scene set f limits share = record { accepted = record { scene = scene; set = set }; frame = f; side = limits.bucket; limit = limits.grid_points; share = share }

-- the drawing of a whole frame
abbrev pub drawing_of : SceneValue → SetValue → FrameValue → Limits → Drawing
drawing_of scene set f limits = share_of scene set f limits Whole

-- part K of N, where K and N are the first two numbers of a list
abbrev pub part_of : SceneValue → SetValue → FrameValue → Limits → List ℕ → Drawing
part_of scene set f limits part = share_of scene set f limits (Nth (slice_index_or part 0 0) (slice_index_or part 1 0))

-- what a drawing that came to its end has changed
pub record Done (d : Drawing) (count count' : ℕ) (old new : Report) : Type 0 where
  pub shadings : count' ≡ count + (tile_walk d).shadings
  pub epochs : new.epochs ≡ old.epochs + (tile_walk d).epochs
  pub points : new.most_points ≡ max old.most_points (most_points d)
  pub samples : new.most_samples ≡ max old.most_samples (most_samples d)

-- and what one that did not has
pub record DoneInPart (d : Drawing) (count count' : ℕ) (old new : Report) : Type 0 where
  pub least_shadings : count ≤ count'
  pub shadings : count' ≤ count + (tile_walk d).shadings
  pub least_epochs : old.epochs ≤ new.epochs
  pub epochs : new.epochs ≤ old.epochs + (tile_walk d).epochs

-- the report before a drawing
abbrev pub report_before : Begun → Report
report_before b = record { epochs = b.epochs; most_points = b.most_points; most_samples = b.most_samples }

-- a drawing that is to begin, over what stands there
abbrev pub begun_with : Drawing → ℕ → Report → Option (List Written) → Begun
begun_with d count r written = record { drawing = d; count = count; epochs = r.epochs; most_points = r.most_points; most_samples = r.most_samples; written = written }

-- a drawing shades no more than the leaves that meet its tiles, each once for a tile
pub record ShadesAtMost (d : Drawing) (count count' : ℕ) : Type 0 where
  pub least : count ≤ count'
  pub most : count' ≤ count + meetings d (tile_count d) 0

-- ---- steps
-- the shop has the drawing's set, and the count that stood before it
pub record IsShopOf (b : Begun) (shop : Shop) : Type 0 where
  pub set : shop_set shop ≡ b.drawing.accepted.set
  pub count : shop.count ≡ b.count

-- it keeps its set, and shades at most 2 ^ 52 grids for a frame
pub record ShadesFew {T : Type 0} (old new : Shop) (result : Result T DrawFault) : Type 0 where
  pub keeps : KeepsSet old new
  pub few : OnOk result (new.count ≤ old.count + 2 ^ 52)

-- a drawing stands in a tile that is drawn, with the pixels of its row left of `right`, and tells the most samples of the tiles before number n
pub record IsThere (b : Begun) (p : Progress) (right n : ℕ) : Type 0 where
  pub at' : p.drawing.at < tile_count b.drawing
  pub here : draws b.drawing p.drawing.at ≡ true
  pub format : p.filter ≡ format_in b.drawing.frame
  pub grid : p.drawing.tile.grid ≡ tile_grid b.drawing p.drawing.at
  pub sights : p.drawing.leaves.sights ≡ b.drawing.frame
  pub row : HasRow b.drawing p.drawing.at right p.row.items
  pub samples : TellsSamples b n p.report.most_samples

-- it begins with this tile
pub record Starts (b : Begun) (first : ℕ) (p : Progress) : Type 0 where
  pub at' : p.drawing.at ≡ first
  pub told : p.report ≡ report_before b
  pub stands : Stands (next_of b (report_before b)) p [] b.count

-- it goes on behind its tile, with the next one that is drawn where there is one
pub record GoesFurther {T E : Type 0} (e : InEpoch) (old new : Progress) (result : Result T E) : Type 0 where
  pub at' : OnOk result (IsFirstDrawn e.begun.drawing (old.drawing.at + 1) new.drawing.at)
  pub stands : OnOk result ((kept : List (Part × SeenGrid)) (count : ℕ) → Before e (old.drawing.at + 1) kept count → Stands e new kept count)
  pub epochs : new.report.epochs ≡ old.report.epochs
  pub points : new.report.most_points ≡ old.report.most_points

-- it advances to the end of an epoch: behind the last tile, or at a leaf for whose grid there is no room
pub record Advances {T : Type 0} (e : InEpoch) (old new : Progress) (epoch : EpochValue) (shop shop' : Shop) (result : Result T DrawFault) : Type 0 where
  pub within : OnOk result (new.drawing.at ≤ tile_count e.begun.drawing)
  pub full : OnOk result (new.drawing.at < tile_count e.begun.drawing → Stands (next_epoch (points_in epoch.kept) e) new [] shop'.count)
  pub ended : OnOk result (new.drawing.at ≡ tile_count e.begun.drawing → Before e new.drawing.at epoch.kept shop'.count)
  pub samples : OnOk result (TellsSamples e.begun new.drawing.at new.report.most_samples)
  pub shaded : OnErr result (ShadesInPart e.begun shop'.count)
  pub keeps : KeepsSet shop shop'
  pub epochs : new.report.epochs ≡ old.report.epochs
  pub points : new.report.most_points ≡ old.report.most_points

-- and runs through an epoch, which the report tells
pub record RunsEpoch {T : Type 0} (b : Begun) (old new : Progress) (shop shop' : Shop) (result : Result T DrawFault) : Type 0 where
  pub within : OnOk result (new.drawing.at ≤ tile_count b.drawing)
  pub epochs : new.report.epochs ≡ old.report.epochs + 1
  pub full : OnOk result (new.drawing.at < tile_count b.drawing → Stands (next_of b new.report) new [] shop'.count)
  pub ended : OnOk result (new.drawing.at ≡ tile_count b.drawing → Done b.drawing b.count shop'.count (report_before b) new.report)
  pub shaded : OnErr result (ShadesInPart b shop'.count)
  pub keeps : KeepsSet shop shop'

-- a drawing that comes to its end, or stops before
pub record DrawsAll {T : Type 0} (d : Drawing) (count count' : ℕ) (old new : Report) (result : Result T DrawFault) : Type 0 where
  pub done : OnOk result (Done d count count' old new)
  pub part : OnErr result (DoneInPart d count count' old new)
