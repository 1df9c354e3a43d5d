-- Boxes round micropolygons on the raster.
use Rattle.std.specs.Prelude.{ℤ, Bool, ◌&&◌, int_le}
use Rattle.std.specs.Int.{int_min, int_max}
use Rattle.fixed_math.specs.Spots.{Spot}
use Rattle.hider.specs.declared.quad.Quad.{Quad}
use Rattle.hider.specs.declared.bounds.Bounds.{Bounds}

abbrev pub least_of : ℤ → ℤ → ℤ → ℤ → ℤ
least_of a b c d = int_min (int_min a b) (int_min c d)

abbrev pub greatest_of : ℤ → ℤ → ℤ → ℤ → ℤ
greatest_of a b c d = int_max (int_max a b) (int_max c d)

-- the least box that holds all four corners
unfoldable pub bounds_of : Quad → Bounds
bounds_of q = record {
  left = least_of q.a.place.x q.b.place.x q.c.place.x q.d.place.x;
  right = greatest_of q.a.place.x q.b.place.x q.c.place.x q.d.place.x;
  top = least_of q.a.place.y q.b.place.y q.c.place.y q.d.place.y;
  bottom = greatest_of q.a.place.y q.b.place.y q.c.place.y q.d.place.y;
}

-- whether a box holds a place
abbrev pub holds : Bounds → Spot → Bool
holds b s = int_le b.left s.x && (int_le s.x b.right && (int_le b.top s.y && int_le s.y b.bottom))
