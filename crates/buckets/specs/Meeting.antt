-- The leaves that meet a tile, and those that meet some tile of their frame: how much a drawing has to shade.
use Rattle.std.specs.Prelude.{◌≡◌, ℕ, zero, suc, ◌+◌, Bool, cond, filter, length, List, [], ◌∷◌}
use Rattle.std.specs.List.{list_any, range_with_len}
use Rattle.grid_epoch.specs.Kept.{AreDistinct}
use Rattle.buckets.specs.Pictures.{FrameLeaf, frame_leaves}
use Rattle.buckets.specs.TileWalk.{Drawing, Counts, draws, meets_tile, tile_count, leaf_points}

-- the leaves that meet tile n
abbrev pub meeting : Drawing → ℕ → List FrameLeaf
meeting d n = filter (meets_tile d n) (frame_leaves d.frame)

-- how many leaves meet tile n, how many the next tile, and so on through those that are drawn of k tiles
abbrev pub meetings : Drawing → ℕ → ℕ → ℕ
meetings d zero n = 0
meetings d (suc k) n = cond (draws d n) (length (meeting d n)) 0 + meetings d k (n + 1)

-- a leaf meets some tile that is drawn
abbrev pub meets_some : Drawing → FrameLeaf → Bool
meets_some d x = list_any (λ n. meets_tile d n x) (range_with_len 0 (tile_count d))

-- the leaves that meet some tile
abbrev pub meeting_some : Drawing → List FrameLeaf
meeting_some d = filter (meets_some d) (frame_leaves d.frame)

-- the points of the grids of some leaves
abbrev pub points_of : Drawing → List FrameLeaf → ℕ
points_of d [] = 0
points_of d (x ∷ xs) = leaf_points d x + points_of d xs

-- each grid that was shaded is kept in the one epoch, once
pub record InOneEpoch (c : Counts) : Type 0 where
  pub epochs : c.epochs ≡ 1
  pub shadings : c.shadings ≡ length c.kept
  pub distinct : AreDistinct c.kept
