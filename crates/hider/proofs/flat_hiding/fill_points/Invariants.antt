use Rattle.std.proofs.Common.{◌≡◌, ◌<◌, ℕ, length, slice_index_or}
use Rattle.fixed_math.specs.Axes.{origin}
use Rattle.hider.specs.declared.raster_point.RasterPoint.{RasterPoint}
use Rattle.hider.specs.Flat.{raster_point}
use Rattle.hider.proofs.flat_hiding.fill_points.Given as goal

abbrev pub invariant-loop-n : goal.invariant-loop-n
invariant-loop-n g l = record {
  counted : length l.seen.items ≡ l.n;
  each : (m : ℕ) (d : RasterPoint) → m < l.n → slice_index_or l.seen.items m d ≡ raster_point l.camera (slice_index_or l.points m origin);
}
