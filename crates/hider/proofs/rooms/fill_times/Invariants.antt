use Rattle.std.proofs.Common.{◌≡◌, ◌*◌, ◌≤◌, ◌<◌, ℕ, length, slice_index_or, vec_capacity}
use Rattle.hider.specs.Tiles.{sample_count, sample_of}
use Rattle.hider.proofs.rooms.fill_times.Given as goal

abbrev pub invariant-loop-pixel : goal.invariant-loop-pixel
invariant-loop-pixel l = record {
  counted : length l.times.items ≡ l.pixel * (l.grid.xs * l.grid.ys);
  room : sample_count l.grid ≤ vec_capacity l.times;
  each : (m d : ℕ) → m < l.pixel * (l.grid.xs * l.grid.ys) → slice_index_or l.times.items m d ≡ (sample_of l.grid m).time;
}
