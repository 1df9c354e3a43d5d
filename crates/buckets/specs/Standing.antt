-- Where the drawing of a frame stands: what its tile shows, and what is left of the walk through its tiles.
use Rattle.std.specs.Prelude.{◌≡◌, ◌≢◌, ℤ, ℕ, ◌+◌, ◌-◌, ◌^◌, ◌≤◌, ◌<◌, max, Bool, true, false, nat_le, filter, List, [], ◌∷◌, ◌++◌, length, map, drop, All, Option, Some, None, slice_get, slice_index_or}
use Rattle.patches.specs.Parts.{Part}
use Rattle.bound_split.specs.declared.walk.Leaf.{Leaf}
use Rattle.bound_split.specs.declared.splits.Decision.TheVariants.{Dice}
use Rattle.bound_split.specs.Leaves.{pending}
use Rattle.dice.specs.declared.diced.GridRef.{GridRef}
use Rattle.scene.specs.Settings.{AreOptions}
use Rattle.scene.specs.Scene.{PrimValue, FrameValue, SceneValue, IsPrim, HasUses}
use Rattle.shader_binding.specs.Sets.{Fits, SetValue}
use Rattle.transforms.specs.Field.{IsView}
use Rattle.fixed_math.specs.Buckets.{bucket_count}
use Rattle.shader_binding.specs.Bindings.{FitsPrim}
use Rattle.grid_variables.specs.Closings.{closing_of, places_in}
use Rattle.displace_shade.specs.Diced.{grid_value}
use Rattle.displace_shade.specs.Shaded.{shaded}
use Rattle.displace_shade.specs.Shop.{leaf_of}
use Rattle.hider.specs.declared.seen_grid.SeenGrid.{SeenGrid}
use Rattle.hider.specs.Flat.{IsSeenBy}
use Rattle.hider.specs.Tiles.{TileValue, Shows}
use Rattle.filter_ppm.specs.Sampled.{FilmFormat, IsFormat}
use Rattle.grid_epoch.specs.Kept.{has, pieces_in, points_in}
use Rattle.outside.specs.Sink.{Written}
use Rattle.buckets.specs.declared.limits.Limits.{Limits}
use Rattle.buckets.specs.declared.share.Share.{Share}
use Rattle.buckets.specs.declared.shown.Shown.{Shown}
use Rattle.fixed_math.specs.Spots.{PixelRect}
use Rattle.buckets.specs.Shares.{IsShare}
use Rattle.buckets.specs.Culled.{IsShadedPrim, part_shows}
use Rattle.buckets.specs.Pictures.{HasFrame, decide, FrameLeaf, leaf_in, leaves_from, frame_leaves, leaf_micropolygons}
use Rattle.buckets.specs.Sampled.{ShowsMore, TellsBehind}
use Rattle.buckets.specs.TileWalk.{Drawing, Counts, walked, format_in, picture_rect, draws, tile_count, tile_rect, tile_grid, meets_tile, fragments_of, leaf_points, with_needed, past_leaves, past_tiles, tile_walk}

-- a drawing, and what stood before it: the shop's count, the report's numbers, and what the sink told behind the header
pub record Begun : Type 0 where
  pub drawing : Drawing
  pub count : ℕ
  pub epochs : ℕ
  pub most_points : ℕ
  pub most_samples : ℕ
  pub written : Option (List Written)

-- a drawing that can be done: the set fits, and the limits lie in their ranges
pub record IsDrawable (d : Drawing) : Type 0 where
  pub fits : Fits d.accepted.set d.accepted.scene.uses
  pub variables : All (FitsPrim d.accepted.set d.accepted.scene.uses) d.frame.prims
  pub prims : All (IsShadedPrim d.accepted d.frame) d.frame.prims
  pub format : IsFormat (format_in d.frame)
  pub options : AreOptions d.frame.options
  pub few_prims : length d.frame.prims ≤ 65536
  pub side_low : 4 ≤ d.side
  pub side_high : d.side ≤ 64
  pub limit_low : 289 ≤ d.limit
  pub share : IsShare d.share

-- the code draws this frame within these limits, and the counts before it leave room
pub record IsDrawn (b : Begun) (s : Shown) : Type 0 where
  pub drawable : IsDrawable b.drawing
  pub scene : s.scene.now ≡ b.drawing.accepted.scene
  pub frame : s.frame.now ≡ b.drawing.frame
  pub side : s.limits.bucket ≡ b.drawing.side
  pub limit : s.limits.grid_points ≡ b.drawing.limit
  pub share : s.share ≡ b.drawing.share
  pub tiles : s.tiles ≡ tile_count b.drawing
  pub count : b.count ≤ 2 ^ 62
  pub epochs : b.epochs ≤ 2 ^ 62

-- this tile of it
pub record IsTile (b : Begun) (s : Shown) (n : ℕ) : Type 0 where
  pub drawn : IsDrawn b s
  pub at' : n < tile_count b.drawing

-- this tile, which is drawn, shows all of the frame, in the filter's format
pub record ShowsTile (b : Begun) (s : Shown) (n : ℕ) (tile : TileValue) (format : FilmFormat) : Type 0 where
  pub of : IsTile b s n
  pub drawn : draws b.drawing n ≡ true
  pub film : format ≡ format_in b.drawing.frame
  pub grid : tile.grid ≡ tile_grid b.drawing n
  pub shows : Shows tile (fragments_of b.drawing (frame_leaves b.drawing.frame))

-- ---- frames
-- what the types of a frame and of its parts say of it
pub record IsFrame (f : FrameValue) : Type 0 where
  pub view : IsView f.camera
  pub format : IsFormat (format_in f)
  pub options : AreOptions f.options
  pub few : length f.prims ≤ 65536
  pub prims : All IsPrim f.prims

-- the pixels of a frame's picture: some, by their left, top, right and bottom
pub record IsCropOf (f : FrameValue) (crop : List ℕ) : Type 0 where
  pub value : crop ≡ f.options.crop
  pub across : slice_index_or crop 0 0 < slice_index_or crop 2 0
  pub right : slice_index_or crop 2 0 ≤ 4096
  pub down : slice_index_or crop 1 0 < slice_index_or crop 3 0
  pub bottom : slice_index_or crop 3 0 ≤ 4096

-- limits within their ranges
pub record AreLimits (limits : Limits) : Type 0 where
  pub bucket_low : 4 ≤ limits.bucket
  pub bucket_high : limits.bucket ≤ 64
  pub points_low : 289 ≤ limits.grid_points
  pub points_high : limits.grid_points ≤ 1000000

-- the frame of a scene at a place, of which a share is to be drawn within limits
pub record IsShownOf (scene : SceneValue) (index : ℕ) (limits : Limits) (share : Share) (s : Shown) : Type 0 where
  pub scene' : s.scene.now ≡ scene
  pub index' : s.index ≡ index
  pub limits' : s.limits ≡ limits
  pub share' : s.share ≡ share
  pub tiles : s.tiles ≡ bucket_count limits.bucket (picture_rect s.frame.now)
  pub some : 1 ≤ s.tiles
  pub frame : IsFrame s.frame.now
  pub uses : All (HasUses scene.uses) s.frame.now.prims

-- a set of shaders fits a scene and the primitives of one of its frames
pub record FitsFrame (set : SetValue) (scene : SceneValue) (index : ℕ) : Type 0 where
  pub fits : Fits set scene.uses
  pub variables : (f : FrameValue) → HasFrame scene index f → All (FitsPrim set scene.uses) f.prims

-- ---- tiles to come
-- the first tile from number n on that is drawn; behind the last tile where none is
pub record IsFirstDrawn (d : Drawing) (n first : ℕ) : Type 0 where
  pub from : n ≤ first
  pub within : first ≤ tile_count d
  pub none : (k : ℕ) → n ≤ k → k < first → draws d k ≡ false
  pub drawn : first < tile_count d → draws d first ≡ true

-- ---- leaves to come
-- those below the pieces of a stack of primitive n, and those of the primitives behind it
abbrev pub coming_from : FrameValue → ℕ → List PrimValue → List Part → List FrameLeaf
coming_from f n [] stack = []
coming_from f n (p ∷ ps) stack = map (leaf_in p) (pending (decide f.camera p) stack) ++ leaves_from f (n + 1) ps

-- the leaves that are to come: those of a stack's pieces, then those of the primitives after it
unfoldable pub to_come : FrameValue → ℕ → List Part → List FrameLeaf
to_come f n stack = coming_from f n (drop n f.prims) stack

-- the leaf of a walk is one of a frame
pub record IsLeafOf (f : FrameValue) (leaf : Leaf) (x : FrameLeaf) : Type 0 where
  pub part : x.part ≡ leaf.piece
  pub sizes : decide f.camera x.prim leaf.piece ≡ Dice leaf.p leaf.q
  pub p : leaf.p ≤ 4
  pub q : leaf.q ≤ 4

-- a leaf that is next in tile n, where there is one, and those behind it
abbrev pub Comes : Drawing → ℕ → Option Leaf → List FrameLeaf → List FrameLeaf → Type 0
Comes d n None behind rest = rest ≡ []
Comes d n (Some leaf) behind rest = (x : FrameLeaf) × IsLeafOf d.frame leaf x × (meets_tile d n x ≡ true) × (rest ≡ x ∷ behind)

-- ---- kept grids
-- the grid is that of its piece: it has the leaf's points, shaded, and their closing places where the primitive moves
abbrev pub IsShadedOf : Drawing → Part → GridRef → Type 0
IsShadedOf d part grid = (prim : PrimValue) (p q : ℕ) → slice_get d.frame.prims part.prim ≡ Some prim → decide d.frame.camera prim part ≡ Dice p q
    → let l = leaf_of d.frame prim part p q in (grid_value grid ≡ shaded l d.accepted.set d.accepted.scene.uses) × (places_in grid.closing ≡ closing_of l grid.p.now)

-- the same of one as the frame's camera sees it
abbrev pub IsGridOf : Drawing → Part → SeenGrid → Type 0
IsGridOf d part seen = IsSeenBy d.frame.camera seen × IsShadedOf d part seen.grid

abbrev pub AreGrids : Drawing → List (Part × SeenGrid) → Type 0
AreGrids d [] = Unit {0}
AreGrids d (k ∷ ks) = IsGridOf d k.0 k.1 × AreGrids d ks

-- the counts have what the table has
pub record Keeps (kept : List (Part × SeenGrid)) (c : Counts) : Type 0 where
  pub pieces : c.kept ≡ pieces_in kept
  pub points : c.points ≡ points_in kept

-- ---- an epoch
-- a drawing in one of its epochs: what the report tells by now
pub record InEpoch : Type 0 where
  pub begun : Begun
  pub epochs : ℕ
  pub most_points : ℕ

-- in the epoch behind one that keeps so many points
abbrev pub next_epoch : ℕ → InEpoch → InEpoch
next_epoch points e = record { begun = e.begun; epochs = e.epochs + 1; most_points = max e.most_points points }

-- the counts are those since the drawing began
pub record Counted (e : InEpoch) (count : ℕ) (c : Counts) : Type 0 where
  pub shadings : count ≡ e.begun.count + c.shadings
  pub epochs : e.epochs ≡ e.begun.epochs + c.epochs
  pub most : e.most_points ≡ max e.begun.most_points c.most

-- in tile n, which shows the leaves that were gone past: what the rest of the walk comes to is what the whole comes to
pub record Goes (e : InEpoch) (n : ℕ) (tile : TileValue) (rest : List FrameLeaf) (kept : List (Part × SeenGrid)) (count : ℕ) : Type 0 where
  pub shown : List FrameLeaf
  pub past : List FrameLeaf
  pub counts : Counts
  pub grid : tile.grid ≡ tile_grid e.begun.drawing n
  pub split : past ++ rest ≡ frame_leaves e.begun.drawing.frame
  pub shows : Shows tile (fragments_of e.begun.drawing shown)
  pub shows_past : Shows tile (fragments_of e.begun.drawing past)
  pub grids : AreGrids e.begun.drawing kept
  pub keeps : Keeps kept counts
  pub counted : Counted e count counts
  pub walk : past_tiles e.begun.drawing (tile_count e.begun.drawing - (n + 1)) (n + 1) (past_leaves e.begun.drawing n (walked shown counts) rest).counts
      ≡ tile_walk e.begun.drawing

-- with the leaf that is next
pub record Going (e : InEpoch) (n : ℕ) (tile : TileValue) (next : Option Leaf) (behind : List FrameLeaf) (kept : List (Part × SeenGrid)) (count : ℕ) : Type 0 where
  pub rest : List FrameLeaf
  pub comes : Comes e.begun.drawing n next behind rest
  pub goes : Goes e n tile rest kept count

-- before tile n, or behind the last one
pub record Before (e : InEpoch) (n : ℕ) (kept : List (Part × SeenGrid)) (count : ℕ) : Type 0 where
  pub counts : Counts
  pub grids : AreGrids e.begun.drawing kept
  pub keeps : Keeps kept counts
  pub counted : Counted e count counts
  pub walk : past_tiles e.begun.drawing (tile_count e.begun.drawing - n) n counts ≡ tile_walk e.begun.drawing

-- ---- steps
-- some leaves but for those at their front, of which none passes a test
pub record Skips (test : FrameLeaf → Bool) (old new : List FrameLeaf) : Type 0 where
  pub skipped : List FrameLeaf
  pub split : old ≡ skipped ++ new
  pub fail : filter test skipped ≡ []

-- the first leaf that passes a test, where there is one, and those behind it, none where there is none
abbrev pub GivesNext : FrameValue → (FrameLeaf → Bool) → Option Leaf → List FrameLeaf → List FrameLeaf → Type 0
GivesNext f test None old new = Skips test old [] × (new ≡ [])
GivesNext f test (Some leaf) old new = (x : FrameLeaf) × IsLeafOf f leaf x × (test x ≡ true) × Skips test old (x ∷ new)

-- the leaf meets a rectangle of pixels, and doesn't lie at a depth that is told to be behind
unfoldable pub shows_in : FrameValue → PixelRect → (ℤ → Bool) → FrameLeaf → Bool
shows_in f r behind x = part_shows f x.prim r behind x.part

-- the first leaf that a tile shows in a rectangle of pixels, in front of all that lies there
abbrev pub FindsNext : FrameValue → TileValue → PixelRect → Option Leaf → List FrameLeaf → List FrameLeaf → Type 0
FindsNext f tile r next old new = (back : ℤ → Bool) → TellsBehind tile back → GivesNext f (shows_in f r back) next old new

-- the first one of all leaves, in tile n
abbrev pub FindsFirst : Drawing → ℕ → TileValue → Option Leaf → List FrameLeaf → Type 0
FindsFirst d n tile next behind = FindsNext d.frame tile (tile_rect d n) next (frame_leaves d.frame) behind

-- where there is a leaf that is next, the drawing goes on from it in the next epoch
abbrev pub Waits : InEpoch → List (Part × SeenGrid) → ℕ → TileValue → Option Leaf → List FrameLeaf → ℕ → Type 0
Waits e kept n tile next behind count = next ≢ None → Going (next_epoch (points_in kept) e) n tile next behind [] count

-- with so many shadings more, the counts are these, which have what the table has
pub record CountsGo (old new : Counts) (kept : List (Part × SeenGrid)) (count count' : ℕ) : Type 0 where
  pub keeps : Keeps kept new
  pub shadings : count' + old.shadings ≡ count + new.shadings
  pub epochs : new.epochs ≡ old.epochs
  pub most : new.most ≡ old.most

-- a leaf has been hidden, and its grid is kept; or there is no room for its grid, and nothing has changed
abbrev pub Uses : Bool → Drawing → FrameLeaf → List (Part × SeenGrid) → ℕ → TileValue → List (Part × SeenGrid) → ℕ → TileValue → Type 0
Uses true d x kept count old kept' count' new =
    AreGrids d kept' × ShowsMore d.frame.camera (leaf_micropolygons d.accepted d.frame x.prim x.part) old new
    × ((c : Counts) → Keeps kept c → CountsGo c (with_needed d.limit x.part (leaf_points d x) c) kept' count count')
Uses false d x kept count old kept' count' new =
    (kept' ≡ kept) × (count' ≡ count) × (new ≡ old) × (has x.part (pieces_in kept) ≡ false) × (nat_le (points_in kept + leaf_points d x) d.limit ≡ false)

-- where memory was wanting the count has risen by no more than that of a leaf that is used
abbrev pub UsesInPart : Drawing → FrameLeaf → List (Part × SeenGrid) → ℕ → ℕ → Type 0
UsesInPart d x kept count count' =
    (count ≤ count') × (count' ≤ count + 1) × ((c : Counts) → Keeps kept c → count' + c.shadings ≤ count + (with_needed d.limit x.part (leaf_points d x) c).shadings)

-- the drawing has gone past a leaf of a tile; or there is no room for its grid, and in the next epoch it goes on from there
abbrev pub PassesLeaf : Bool → InEpoch → FrameLeaf → TileValue → List (Part × SeenGrid) → ℕ → TileValue → List (Part × SeenGrid) → ℕ → Type 0
PassesLeaf true e x tile kept count tile' kept' count' =
    (n : ℕ) (rest : List FrameLeaf) → meets_tile e.begun.drawing n x ≡ true → Goes e n tile (x ∷ rest) kept count → Goes e n tile' rest kept' count'
PassesLeaf false e x tile kept count tile' kept' count' =
    (n : ℕ) (rest : List FrameLeaf) → meets_tile e.begun.drawing n x ≡ true → Goes e n tile (x ∷ rest) kept count
    → Goes (next_epoch (points_in kept') e) n tile' (x ∷ rest) [] count'

-- no more was shaded than the walk shades
abbrev pub ShadesInPart : Begun → ℕ → Type 0
ShadesInPart b count = (b.count ≤ count) × (count ≤ b.count + (tile_walk b.drawing).shadings)

abbrev pub PassesInPart : InEpoch → FrameLeaf → TileValue → List (Part × SeenGrid) → ℕ → ℕ → Type 0
PassesInPart e x tile kept count count' =
    (n : ℕ) (rest : List FrameLeaf) → meets_tile e.begun.drawing n x ≡ true → Goes e n tile (x ∷ rest) kept count → ShadesInPart e.begun count'
