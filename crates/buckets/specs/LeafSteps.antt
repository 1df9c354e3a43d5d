-- What the steps with a leaf do: it is shaded, its grid is kept, and it is hidden in a tile.
use Rattle.std.specs.Prelude.{◌≡◌, ◌≤◌, ◌<◌, ◌+◌, ◌*◌, ℕ, Bool, [], ◌∷◌, ◌++◌, Some, None, slice_get, Option, Result, OnOk, OnErr, IfOk}
use Rattle.fixed_math.specs.declared.memory.NoMemory.{NoMemory}
use Rattle.bound_split.specs.declared.walk.Leaf.{Leaf}
use Rattle.bound_split.specs.declared.splits.Decision.TheVariants.{Dice}
use Rattle.dice.specs.Grids.{line_count}
use Rattle.scene.specs.Scene.{PrimValue, FrameValue}
use Rattle.displace_shade.specs.Shop.{shop_set}
use Rattle.displace_shade.specs.declared.shop.Shop.{Shop}
use Rattle.hider.specs.declared.seen_grid.SeenGrid.{SeenGrid}
use Rattle.hider.specs.Tiles.{TileValue, Shows}
use Rattle.filter_ppm.specs.Bands.{rect_with}
use Rattle.grid_epoch.specs.Kept.{EpochValue}
use Rattle.buckets.specs.declared.tile_drawing.TileDrawing.{TileDrawing}
use Rattle.buckets.specs.Pictures.{decide, FrameLeaf}
use Rattle.buckets.specs.TileWalk.{Drawing, tile_rect, tile_grid}
use Rattle.buckets.specs.Standing.{Begun, InEpoch, AreGrids, IsGridOf, Uses, UsesInPart, PassesLeaf, PassesInPart, Goes, Going, Waits, FindsFirst, ShadesInPart, to_come}

-- a leaf of a walk is diced so, as a part of this primitive of the frame
pub record IsDiced (d : Drawing) (prim : PrimValue) (leaf : Leaf) : Type 0 where
  pub there : slice_get d.frame.prims leaf.piece.prim ≡ Some prim
  pub sizes : decide d.frame.camera prim leaf.piece ≡ Dice leaf.p leaf.q
  pub p : leaf.p ≤ 4
  pub q : leaf.q ≤ 4

-- the shop has the drawing's set, and room to count one more shading
pub record CanShade (d : Drawing) (shop : Shop) : Type 0 where
  pub set : shop_set shop ≡ d.accepted.set
  pub count : shop.count < 18446744073709551615

-- the epoch keeps grids of this drawing, of no more points than it may
pub record KeepsGrids (d : Drawing) (epoch : EpochValue) : Type 0 where
  pub limit : epoch.limit ≡ d.limit
  pub grids : AreGrids d epoch.kept

-- the shop keeps its shaders and its textures
pub record KeepsSet (old new : Shop) : Type 0 where
  pub set : new.set ≡ old.set
  pub textures : new.cache.textures ≡ old.cache.textures

-- and counts one shading more, where the step fails one at most
pub record ShadesOne {T : Type 0} (old new : Shop) (result : Result T NoMemory) : Type 0 where
  pub keeps : KeepsSet old new
  pub least : old.count ≤ new.count
  pub most : new.count ≤ old.count + 1
  pub count : OnOk result (new.count ≡ old.count + 1)

-- the grid of a leaf, which is kept from now on
pub record KeepsGrid (d : Drawing) (leaf : Leaf) (old new : EpochValue) (seen : SeenGrid) : Type 0 where
  pub grid : IsGridOf d leaf.piece seen
  pub points : seen.grid.columns * seen.grid.rows ≡ line_count leaf.p * line_count leaf.q
  pub kept : new.kept ≡ old.kept ++ (leaf.piece, seen) ∷ []

-- a leaf is hidden in a tile by its grid, which is kept; or there is no room for it
pub record UsesLeaf (d : Drawing) (x : FrameLeaf) (tile tile' : TileValue) (epoch epoch' : EpochValue) (shop shop' : Shop) (result : Result Bool NoMemory) : Type 0 where
  pub limit : epoch'.limit ≡ epoch.limit
  pub grid : tile'.grid ≡ tile.grid
  pub keeps : KeepsSet shop shop'
  pub used : IfOk result (λ b. Uses b d x epoch.kept shop.count tile epoch'.kept shop'.count tile')
  pub part : OnErr result (UsesInPart d x epoch.kept shop.count shop'.count)

-- the drawing goes past a leaf of a tile; or there is no room for its grid
pub record PassesOne (e : InEpoch) (x : FrameLeaf) (tile tile' : TileValue) (epoch epoch' : EpochValue) (shop shop' : Shop) (result : Result Bool NoMemory) : Type 0 where
  pub limit : epoch'.limit ≡ epoch.limit
  pub keeps : KeepsSet shop shop'
  pub passed : IfOk result (λ b. PassesLeaf b e x tile epoch.kept shop.count tile' epoch'.kept shop'.count)
  pub part : OnErr result (PassesInPart e x tile epoch.kept shop.count shop'.count)

-- ---- a tile
-- a tile's drawing is at its next leaf, in this frame
pub record IsAtLeaf (e : InEpoch) (f : FrameValue) (t : TileDrawing) (epoch : EpochValue) (shop : Shop) : Type 0 where
  pub rect : rect_with t.rect ≡ tile_rect e.begun.drawing t.at
  pub going : Going e t.at t.tile t.next (to_come f t.leaves.number t.leaves.pieces) epoch.kept shop.count
  pub sights : t.leaves.sights ≡ f

-- it goes past the leaves to the tile's end, or to one for whose grid there is no room, from which it goes on in the next epoch
pub record Fills {T : Type 0} (e : InEpoch) (f : FrameValue) (old new : TileDrawing) (epoch epoch' : EpochValue) (shop shop' : Shop) (result : Result T NoMemory) : Type 0 where
  pub same : new.at ≡ old.at
  pub rect : new.rect ≡ old.rect
  pub leaves : new.leaves.sights ≡ f
  pub limit : epoch'.limit ≡ epoch.limit
  pub keeps : KeepsSet shop shop'
  pub ended : OnOk result (new.next ≡ None → Goes e new.at new.tile [] epoch'.kept shop'.count)
  pub full : OnOk result (Waits e epoch'.kept new.at new.tile new.next (to_come f new.leaves.number new.leaves.pieces) shop'.count)
  pub part : OnErr result (ShadesInPart e.begun shop'.count)

-- it begins with a tile, at which nothing shows yet
pub record BeginsTile {T : Type 0} (d : Drawing) (old new : TileDrawing) (result : Result T NoMemory) : Type 0 where
  pub same : new.at ≡ old.at
  pub leaves : new.leaves.sights ≡ old.leaves.sights
  pub rect : OnOk result (rect_with new.rect ≡ tile_rect d new.at)
  pub grid : OnOk result (new.tile.grid ≡ tile_grid d new.at)
  pub empty : OnOk result (Shows new.tile (λ s. []))
  pub next : OnOk result (FindsFirst d new.at new.tile new.next (to_come d.frame new.leaves.number new.leaves.pieces))
