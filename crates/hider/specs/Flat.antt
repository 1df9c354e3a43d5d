-- Micropolygons of a grid whose points were put on the raster before: those of one colour and opacity, and those whose corners have
-- their own.
use Rattle.std.specs.Prelude.{◌≡◌, ℕ, ◌<◌, ℤ, pos, Bool, false, cond, ◌&&◌, int_le, Option, Some, None, List, [], ◌∷◌, length, slice_index_or}
use Rattle.fixed_math.specs.declared.vec3.Vec3.{Vec3}
use Rattle.fixed_math.specs.Axes.{origin}
use Rattle.fixed_math.specs.Spots.{Spot}
use Rattle.transforms.specs.declared.view.View.{View}
use Rattle.transforms.specs.Raster.{raster_x, raster_y}
use Rattle.dice.specs.declared.diced.GridRef.{GridRef}
use Rattle.hider.specs.declared.bounds.Bounds.{Bounds}
use Rattle.hider.specs.declared.facing.Facing.{Facing}
use Rattle.hider.specs.declared.fragment.Fragment.{Fragment}
use Rattle.hider.specs.declared.quad.Corner.{Corner}
use Rattle.hider.specs.declared.quad.Quad.{Quad}
use Rattle.hider.specs.declared.raster_cell.RasterCell.{RasterCell}
use Rattle.hider.specs.declared.raster_point.RasterPoint.{RasterPoint}
use Rattle.hider.specs.declared.sample.Sample.{Sample}
use Rattle.hider.specs.declared.sample_grid.SampleGrid.{SampleGrid}
use Rattle.hider.specs.declared.seen_grid.SeenGrid.{SeenGrid}
use Rattle.hider.specs.Bounding.{bounds_of, holds}
use Rattle.hider.specs.CellValues.{CellValues, cell_when, values_of, micropolygons_of}
use Rattle.hider.specs.Cells.{still}
use Rattle.hider.specs.Coverage.{covers, covers_facing, covers_triangle}
use Rattle.hider.specs.Fragments.{covering}
use Rattle.hider.specs.Tiles.{TileValue, Shows, HavePut, with_covering}

-- a depth from near to far
abbrev pub is_seen : View → ℤ → Bool
is_seen v z = int_le v.near z && int_le z v.far

-- a point as a camera sees it
unfoldable pub raster_point : View → Vec3 → RasterPoint
raster_point v p = record {
  place = cond (is_seen v p.z) (record { x = raster_x v p; y = raster_y v p }) (record { x = pos 0; y = pos 0 });
  depth = p.z;
  is_seen = is_seen v p.z;
}

-- all points, in order
pub record AreOnRaster (v : View) (points : List Vec3) (seen : List RasterPoint) : Type 0 where
  pub count : length seen ≡ length points
  pub each : (n : ℕ) (d : RasterPoint) → n < length points → slice_index_or seen n d ≡ raster_point v (slice_index_or points n origin)

-- a micropolygon of one colour and opacity: its corners in turn, as a camera sees them
pub record FlatCell : Type 0 where
  pub a : RasterPoint
  pub b : RasterPoint
  pub c : RasterPoint
  pub d : RasterPoint
  pub colour : Vec3
  pub opacity : Vec3

-- the one that stays where a grid has it
abbrev pub flat_of : RasterCell → FlatCell
flat_of r = record { a = r.a.now; b = r.b.now; c = r.c.now; d = r.d.now; colour = r.colour.now; opacity = r.opacity.now }

-- a corner of a micropolygon
abbrev pub flat_corner : FlatCell → RasterPoint → Corner
flat_corner f p = record { place = p.place; depth = p.depth; colour = f.colour; opacity = f.opacity }

unfoldable pub flat_quad : FlatCell → Quad
flat_quad f = record { a = flat_corner f f.a; b = flat_corner f f.b; c = flat_corner f f.c; d = flat_corner f f.d }

abbrev pub are_all_seen : FlatCell → Bool
are_all_seen f = f.a.is_seen && (f.b.is_seen && (f.c.is_seen && f.d.is_seen))

-- the corners of f are those of cell i of cells that stay where they are
pub record IsPlaced (v : View) (corner : ℕ → ℕ → ℕ → Vec3) (i : ℕ) (f : FlatCell) : Type 0 where
  pub a : f.a ≡ raster_point v (corner i 0 0)
  pub b : f.b ≡ raster_point v (corner i 1 0)
  pub c : f.c ≡ raster_point v (corner i 2 0)
  pub d : f.d ≡ raster_point v (corner i 3 0)

-- f is that cell, whose corners all have one colour and opacity
pub record IsFlat (v : View) (k : CellValues) (i : ℕ) (f : FlatCell) : Type 0 where
  pub placed : IsPlaced v k.corner i f
  pub colour : (j : ℕ) → f.colour ≡ k.colour i j
  pub opacity : (j : ℕ) → f.opacity ≡ k.opacity i j

-- all that f shows has been put in, where b is the box round it: what any camera sees of any cell that f is
abbrev pub HavePutFlat : SampleGrid → Bool → Bool → Bounds → FlatCell → List (List Fragment) → List (List Fragment) → Type 0
HavePutFlat g one_sided flip b f old new =
    (v : View) (k : CellValues) (i : ℕ) → IsFlat v k i f → b ≡ bounds_of (flat_quad f) → HavePut g (covering v (still one_sided flip (cell_when k i 0) ∷ [])) old new

-- the boxes round all cells, in order
pub record AreBoxes (v : View) (k : CellValues) (boxes : List Bounds) : Type 0 where
  pub count : length boxes ≡ k.count
  pub each : (i : ℕ) (d : Bounds) (f : FlatCell) → i < k.count → IsPlaced v k.corner i f → slice_index_or boxes i d ≡ bounds_of (flat_quad f)

-- a grid as a camera sees it, whatever its colours
pub record IsSeenBy (v : View) (s : SeenGrid) : Type 0 where
  pub points : AreOnRaster v s.grid.p.now s.points.now
  pub boxes : AreBoxes v (values_of false s.grid) s.boxes.now

-- a tile that showed what some function of samples gives shows that with what any camera sees of the grid's micropolygons
abbrev pub ShowsSeen : SeenGrid → Bool → Bool → Bool → TileValue → TileValue → Type 0
ShowsSeen s smooth one_sided flip old new =
    (v : View) (f : Sample → List Fragment) → IsSeenBy v s → Shows old f → Shows new (with_covering v (micropolygons_of (values_of smooth s.grid) one_sided flip) f)

-- point n of a grid, which is on the raster, as a corner with its own colour and opacity
abbrev pub own_corner : GridRef → RasterPoint → ℕ → Corner
own_corner g p n = record { place = p.place; depth = p.depth; colour = slice_index_or g.ci.now n origin; opacity = slice_index_or g.oi.now n origin }

-- what a micropolygon shows at a place that a box holds
abbrev pub held_covers : Bounds → FlatCell → Spot → Option Fragment
held_covers b f s = cond (holds b s) (covers (flat_quad f) s) None

-- what a triangle of a micropolygon shows, if it is one
abbrev pub facing_covers : FlatCell → Option Facing → Spot → Option Fragment
facing_covers f None s = None
facing_covers f (Some t) s = covers_facing (flat_corner f t.a.now) (flat_corner f t.b.now) (flat_corner f t.c.now) s

-- it is the triangle of three corners, turned so that its area is positive, and none where that is 0
pub record IsFacingOf (a b c : RasterPoint) (t : Option Facing) : Type 0 where
  pub same : (f : FlatCell) (s : Spot) → facing_covers f t s ≡ covers_triangle (flat_corner f a) (flat_corner f b) (flat_corner f c) s
