-- The shaded grid of a leaf, as the code has it.
use Rattle.std.specs.Prelude.{◌≡◌, ◌≤◌, Some, slice_get}
use Rattle.scene.specs.Scene.{FrameValue}
use Rattle.shader_binding.specs.Sets.{AcceptedValue}
use Rattle.grid_variables.specs.Points.{Leaf, columns, rows}
use Rattle.displace_shade.specs.Shop.{leaf_of}
use Rattle.buckets.specs.Progress.{drawing_of}
use Rattle.buckets.specs.TileWalk.{Drawing}
use Rattle.buckets.specs.Standing.{IsShadedOf}
use Rattle.pixel_account.specs.declared.points.LeafGrid.{LeafGrid}
use Rattle.pixel_account.specs.Origins.{IsLeaf}

-- a grid with the lines of this leaf
pub record IsGridOf (l : Leaf) (g : LeafGrid) : Type 0 where
  pub prim : g.prim.now ≡ l.prim
  pub part : g.leaf.piece ≡ l.part
  pub p : g.leaf.p ≡ l.p
  pub q : g.leaf.q ≡ l.q
  pub columns : g.grid.columns ≡ columns l
  pub rows : g.grid.rows ≡ rows l
  pub p_most : l.p ≤ 4
  pub q_most : l.q ≤ 4

-- the leaf of a grid in a frame
abbrev pub leaf_in : FrameValue → LeafGrid → Leaf
leaf_in f g = leaf_of f g.prim.now g.leaf.piece g.leaf.p g.leaf.q

-- a drawing of a frame: in what buckets, and how much is kept, changes nothing of its grids
abbrev pub drawing_in : AcceptedValue → FrameValue → Drawing
drawing_in a f = drawing_of a.scene a.set f (record { bucket = 4; grid_points = 289 })

-- it is the shaded grid of a leaf of a frame of an accepted scene
pub record IsLeafGrid (a : AcceptedValue) (f : FrameValue) (g : LeafGrid) : Type 0 where
  pub there : slice_get f.prims g.leaf.piece.prim ≡ Some g.prim.now
  pub leaf : IsLeaf f g.prim.now g.leaf.piece.prim g.leaf.piece g.leaf.p g.leaf.q
  pub p : g.leaf.p ≤ 4
  pub q : g.leaf.q ≤ 4
  pub shaded : IsShadedOf (drawing_in a f) g.leaf.piece g.grid
