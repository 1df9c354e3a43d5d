-- Micropolygons of a grid, and what a camera sees of them.
use Rattle.std.specs.Prelude.{ℕ, ◌+◌, ◌-◌, ◌*◌, ◌/◌, ◌%◌, ℤ, pos, ◌+ℤ◌, Bool, true, false, cond, ◌&&◌, int_le, int_lt, Option, Some, None, List, map, slice_index_or}
use Rattle.std.specs.List.{range_with_len}
use Rattle.fixed_math.specs.declared.vec3.Vec3.{Vec3}
use Rattle.fixed_math.specs.Axes.{origin}
use Rattle.fixed_math.specs.Edges.{edge}
use Rattle.transforms.specs.declared.view.View.{View}
use Rattle.transforms.specs.Raster.{raster_x, raster_y}
use Rattle.hider.specs.declared.cell.CellCorner.{CellCorner}
use Rattle.hider.specs.declared.cell.Cell.{Cell}
use Rattle.hider.specs.declared.quad.Corner.{Corner}
use Rattle.hider.specs.declared.quad.Quad.{Quad}

-- the point whose colour and opacity corner n of a cell has, of which point m is the first: that one, or where they vary over the
-- cell, its own
abbrev pub shade_point : Bool → ℕ → ℕ → ℕ
shade_point false m n = m
shade_point true m n = n

-- point n of a grid as a corner of a cell of which point m is the first
abbrev pub cell_corner : Bool → List Vec3 → List Vec3 → List Vec3 → ℕ → ℕ → CellCorner
cell_corner smooth points colours opacities m n = record {
  point = slice_index_or points n origin;
  colour = slice_index_or colours (shade_point smooth m n) origin;
  opacity = slice_index_or opacities (shade_point smooth m n) origin;
}

-- the corners whose first is point n of a grid with this many columns of points, by rows
abbrev pub cell_from : Bool → ℕ → List Vec3 → List Vec3 → List Vec3 → ℕ → Cell
cell_from smooth columns points colours opacities n = record {
  a = cell_corner smooth points colours opacities n n;
  b = cell_corner smooth points colours opacities n (n + 1);
  c = cell_corner smooth points colours opacities n (n + columns + 1);
  d = cell_corner smooth points colours opacities n (n + columns);
}

-- the number of the first corner of cell i: cells go by rows, one fewer in a row than points
abbrev pub first_corner : ℕ → ℕ → ℕ
first_corner columns i = i / (columns - 1) * columns + i % (columns - 1)

-- cell i: each of its corners has the colour and opacity of the first or, under smooth interpolation, its own (RenderMan
-- Interface 3.2, ShadingInterpolation)
unfoldable pub cell_at : Bool → ℕ → List Vec3 → List Vec3 → List Vec3 → ℕ → Cell
cell_at smooth columns points colours opacities i = cell_from smooth columns points colours opacities (first_corner columns i)

-- all cells of a grid of columns by rows points, by rows
abbrev pub cells_of : Bool → ℕ → ℕ → List Vec3 → List Vec3 → List Vec3 → List Cell
cells_of smooth columns rows points colours opacities = map (cell_at smooth columns points colours opacities) (range_with_len 0 ((columns - 1) * (rows - 1)))

-- a micropolygon: its corners at each time of the shutter's interval, from 0 to 65535, whether it has one side alone, and
-- whether that is the other one
pub record Micropolygon : Type 0 where
  pub corners : ℕ → Cell
  pub one_sided : Bool
  pub flip : Bool

-- one whose corners are the same at all times
abbrev pub still : Bool → Bool → Cell → Micropolygon
still one_sided flip k = record { corners = λ t. k; one_sided = one_sided; flip = flip }

-- a corner on the raster
unfoldable pub corner_of : View → CellCorner → Corner
corner_of v k = record {
  place = record { x = raster_x v k.point; y = raster_y v k.point };
  depth = k.point.z;
  colour = k.colour;
  opacity = k.opacity;
}

-- four corners on the raster
unfoldable pub projected : View → Cell → Quad
projected v k = record { a = corner_of v k.a; b = corner_of v k.b; c = corner_of v k.c; d = corner_of v k.d }

-- a depth from near to far
abbrev pub is_in_depth : View → CellCorner → Bool
is_in_depth v k = int_le v.near k.point.z && int_le k.point.z v.far

-- all four corners lie from near to far
unfoldable pub is_all_in_depth : View → Cell → Bool
is_all_in_depth v k = is_in_depth v k.a && (is_in_depth v k.b && (is_in_depth v k.c && is_in_depth v k.d))

-- twice the area of a quad on the raster: its sign is the side that is seen
unfoldable pub turn : Quad → ℤ
turn q = edge q.a.place q.b.place q.c.place +ℤ edge q.a.place q.c.place q.d.place

-- a face of one side that is turned away, the other way round where it is flipped
abbrev pub is_turned_away : Bool → Bool → ℤ → Bool
is_turned_away false flip t = false
is_turned_away true false t = int_lt t (pos 0)
is_turned_away true true t = int_lt (pos 0) t

-- what is seen of a quad: nothing where its one side is turned away
abbrev pub seen : Bool → Bool → Quad → Option Quad
seen one_sided flip q = cond (is_turned_away one_sided flip (turn q)) None (Some q)

-- what is seen of four corners: nothing where one lies before near or beyond far, or where their one side is turned away
unfoldable pub quad_of : View → Bool → Bool → Cell → Option Quad
quad_of v one_sided flip k = cond (is_all_in_depth v k) (seen one_sided flip (projected v k)) None

-- what is seen of a micropolygon at a time: of its corners at that time
abbrev pub seen_at : View → ℕ → Micropolygon → Option Quad
seen_at v t m = quad_of v m.one_sided m.flip (m.corners t)
