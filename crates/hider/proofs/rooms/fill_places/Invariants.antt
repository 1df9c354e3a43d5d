use Rattle.std.proofs.Common.{◌≡◌, ◌*◌, ◌≤◌, ◌<◌, ℕ, length, slice_index_or, vec_capacity}
use Rattle.fixed_math.specs.Spots.{Spot}
use Rattle.hider.specs.Tiles.{sample_count, sample_of}
use Rattle.hider.proofs.rooms.fill_places.Given as goal

abbrev pub invariant-loop-pixel : goal.invariant-loop-pixel
invariant-loop-pixel l = record {
  counted : length l.spots.items ≡ l.pixel * (l.grid.xs * l.grid.ys);
  room : sample_count l.grid ≤ vec_capacity l.spots;
  each : (m : ℕ) (d : Spot) → m < l.pixel * (l.grid.xs * l.grid.ys) → slice_index_or l.spots.items m d ≡ (sample_of l.grid m).place;
}
