-- The walk through the tiles of a frame: which leaves are shown in each, how many grids are shaded for them, and in how many epochs.
use Rattle.std.specs.Prelude.{ℕ, zero, suc, ◌+◌, ◌*◌, max, ℤ, Bool, ◌&&◌, not, cond, nat_le, List, [], ◌∷◌, ◌++◌}
use Rattle.std.specs.List.{list_all, range_with_len}
use Rattle.fixed_math.specs.Spots.{PixelRect}
use Rattle.fixed_math.specs.Buckets.{bucket_count, bucket}
use Rattle.patches.specs.Parts.{Part}
use Rattle.bound_split.specs.declared.splits.Decision.{Decision}
use Rattle.bound_split.specs.declared.splits.Decision.TheVariants.{SplitU, SplitV, Dice}
use Rattle.bound_split.specs.Lengths.{most_below}
use Rattle.dice.specs.Grids.{line_count}
use Rattle.scene.specs.Scene.{FrameValue}
use Rattle.scene.specs.Settings.{crop_of}
use Rattle.shader_binding.specs.Sets.{AcceptedValue}
use Rattle.hider.specs.declared.fragment.Fragment.{Fragment}
use Rattle.hider.specs.declared.sample.Sample.{Sample}
use Rattle.hider.specs.declared.sample_grid.SampleGrid.{SampleGrid}
use Rattle.hider.specs.Fragments.{fragments}
use Rattle.hider.specs.Kept.{blocks}
use Rattle.hider.specs.Tiles.{sample_count, sample_of, rect_of as rect_of_grid}
use Rattle.filter_ppm.specs.Bands.{seen_from, grid_over}
use Rattle.filter_ppm.specs.Sampled.{FilmFormat}
use Rattle.grid_epoch.specs.Kept.{has}
use Rattle.buckets.specs.declared.share.Share.{Share}
use Rattle.buckets.specs.Culled.{leaf_meets, leaf_nearest}
use Rattle.buckets.specs.Shares.{is_in}
use Rattle.buckets.specs.Pictures.{decide, FrameLeaf, frame_leaves, micropolygons_of}

-- a frame of an accepted scene, to be drawn in buckets of a side, all or a share of them, while grids of at most so many points are kept
pub record Drawing : Type 0 where
  pub accepted : AcceptedValue
  pub frame : FrameValue
  pub side : ℕ
  pub limit : ℕ
  pub share : Share

-- ---- tiles: a bucket's samples, and those about it that may count for its pixels, in the picture or not
abbrev pub format_in : FrameValue → FilmFormat
format_in f = record { width = f.camera.width; height = f.camera.height; options = f.options }

-- the pixels of the picture, which buckets cover
abbrev pub picture_rect : FrameValue → PixelRect
picture_rect f = crop_of f.options

-- the pixels of bucket n
abbrev pub bucket_of : Drawing → ℕ → PixelRect
bucket_of d n = bucket d.side (picture_rect d.frame) n

-- tiles go by rows, as buckets do
abbrev pub tile_count : Drawing → ℕ
tile_count d = bucket_count d.side (picture_rect d.frame)

-- those that are drawn
abbrev pub draws : Drawing → ℕ → Bool
draws d n = is_in d.share n

-- the pixels of tile n: those with a sample that may count for a pixel of its bucket
abbrev pub tile_rect : Drawing → ℕ → PixelRect
tile_rect d n = seen_from (format_in d.frame) (bucket_of d n)

-- the samples of tile n
unfoldable pub tile_grid : Drawing → ℕ → SampleGrid
tile_grid d n = grid_over (tile_rect d n) d.frame.options

-- ---- leaves in a tile
-- the leaf can show in a rectangle of pixels
unfoldable pub meets_in : FrameValue → PixelRect → FrameLeaf → Bool
meets_in f r x = leaf_meets f x.prim r x.part

-- whether a leaf can show in tile n
abbrev pub meets_tile : Drawing → ℕ → FrameLeaf → Bool
meets_tile d n x = meets_in d.frame (rect_of_grid (tile_grid d n)) x

-- nothing of the leaf is less deep
unfoldable pub nearest : Drawing → FrameLeaf → ℤ
nearest d x = leaf_nearest d.frame x.prim x.part

-- all fragments of some leaves
abbrev pub fragments_of : Drawing → List FrameLeaf → Sample → List Fragment
fragments_of d xs = fragments d.frame.camera (micropolygons_of d.accepted d.frame xs)

-- a depth at each sample of tile n behind an opaque fragment of these leaves
abbrev pub behind_in : Drawing → ℕ → List FrameLeaf → ℤ → Bool
behind_in d n shown z = list_all (λ i. blocks z (fragments_of d shown (sample_of (tile_grid d n) i))) (range_with_len 0 (sample_count (tile_grid d n)))

-- at each sample of tile n an opaque fragment of these leaves lies before all of the leaf
unfoldable pub is_behind : Drawing → ℕ → List FrameLeaf → FrameLeaf → Bool
is_behind d n shown x = behind_in d n shown (nearest d x)

-- behind these leaves the leaf is shown in tile n: it is neither left out nor passed over
unfoldable pub is_shown : Drawing → ℕ → List FrameLeaf → FrameLeaf → Bool
is_shown d n shown x = meets_tile d n x && not (is_behind d n shown x)

-- ---- what is kept and counted
-- The pieces whose grids are kept, and the sum of their points; how many grids were shaded, and in how many epochs; and the most points that
-- an epoch before this one kept.
pub record Counts : Type 0 where
  pub kept : List Part
  pub points : ℕ
  pub shadings : ℕ
  pub epochs : ℕ
  pub most : ℕ

-- before the first epoch
abbrev pub nothing : Counts
nothing = record { kept = []; points = 0; shadings = 0; epochs = 0; most = 0 }

-- in a new epoch
abbrev pub in_new_epoch : Counts → Counts
in_new_epoch c = record { kept = []; points = 0; shadings = c.shadings; epochs = c.epochs + 1; most = max c.most c.points }

-- with the grid of one more piece, of n points
abbrev pub with_shaded : Part → ℕ → Counts → Counts
with_shaded part n c = record { kept = c.kept ++ part ∷ []; points = c.points + n; shadings = c.shadings + 1; epochs = c.epochs; most = c.most }

-- whether so many points more can be kept
abbrev pub has_room : ℕ → ℕ → Counts → Bool
has_room limit n c = nat_le (c.points + n) limit

-- the piece is needed: a grid that is kept serves again; any other is shaded, in a new epoch where there is no room for it
unfoldable pub with_needed : ℕ → Part → ℕ → Counts → Counts
with_needed limit part n c = cond (has part c.kept) c (with_shaded part n (cond (has_room limit n c) c (in_new_epoch c)))

-- the points of a leaf's grid
abbrev pub points_by : Decision → ℕ
points_by SplitU = 0
points_by SplitV = 0
points_by (Dice p q) = line_count p * line_count q

-- how many points the grid of a leaf has
unfoldable pub leaf_points : Drawing → FrameLeaf → ℕ
leaf_points d x = points_by (decide d.frame.camera x.prim x.part)

-- ---- the walk
-- the leaves that are shown in a tile so far, and the counts
pub record Walked : Type 0 where
  pub shown : List FrameLeaf
  pub counts : Counts

abbrev pub walked : List FrameLeaf → Counts → Walked
walked shown c = record { shown = shown; counts = c }

-- past one leaf in tile n
unfoldable pub past_leaf : Drawing → ℕ → Walked → FrameLeaf → Walked
past_leaf d n w x =
    cond (is_shown d n w.shown x) (walked (w.shown ++ x ∷ []) (with_needed d.limit x.part (leaf_points d x) w.counts)) w

-- the walk after these leaves
abbrev pub past_leaves : Drawing → ℕ → Walked → List FrameLeaf → Walked
past_leaves d n w [] = w
past_leaves d n w (x ∷ xs) = past_leaves d n (past_leaf d n w x) xs

-- through tile n; and through those that are drawn of k tiles, from number n on
unfoldable pub past_tile : Drawing → ℕ → Counts → Counts
past_tile d n c = (past_leaves d n (walked [] c) (frame_leaves d.frame)).counts

-- the counts after so many tiles
abbrev pub past_tiles : Drawing → ℕ → ℕ → Counts → Counts
past_tiles d zero n c = c
past_tiles d (suc k) n c = past_tiles d k (n + 1) (cond (draws d n) (past_tile d n c) c)

-- through all tiles of the picture that are drawn, by rows
unfoldable pub tile_walk : Drawing → Counts
tile_walk d = past_tiles d (tile_count d) 0 (in_new_epoch nothing)

-- the most points that an epoch of the walk keeps, and the most samples of one of its tiles
abbrev pub most_points : Drawing → ℕ
most_points d = max (tile_walk d).most (tile_walk d).points

abbrev pub samples_at : Drawing → ℕ → ℕ
samples_at d n = cond (draws d n) (sample_count (tile_grid d n)) 0

abbrev pub most_samples : Drawing → ℕ
most_samples d = most_below (tile_count d) (samples_at d)
