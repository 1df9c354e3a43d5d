-- The corners of a cell on the raster, for private contracts alone.
use Rattle.std.specs.Prelude.{ℕ, ◌&&◌, Bool, List, [], ◌∷◌, slice_index_or}
use Rattle.fixed_math.specs.declared.vec3.Vec3.{Vec3}
use Rattle.fixed_math.specs.Axes.{origin}
use Rattle.transforms.specs.declared.view.View.{View}
use Rattle.hider.specs.declared.raster_point.RasterPoint.{RasterPoint}
use Rattle.hider.specs.Flat.{is_seen, raster_point}

-- corner k
abbrev pub nth : List Vec3 → ℕ → Vec3
nth corners k = slice_index_or corners k origin

-- the depths of all four lie from near to far
abbrev pub are_seen : View → List Vec3 → Bool
are_seen v corners = is_seen v (nth corners 0).z && (is_seen v (nth corners 1).z && (is_seen v (nth corners 2).z && is_seen v (nth corners 3).z))

-- all four as a camera sees them
abbrev pub points_of : View → List Vec3 → List RasterPoint
points_of v corners = raster_point v (nth corners 0) ∷ raster_point v (nth corners 1) ∷ raster_point v (nth corners 2) ∷ raster_point v (nth corners 3) ∷ []
