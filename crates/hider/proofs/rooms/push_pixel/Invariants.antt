use Rattle.std.proofs.Common.{◌≡◌, ◌+◌, ◌<◌, ℕ, length, slice_index_or, vec_capacity}
use Rattle.fixed_math.specs.Spots.{Spot}
use Rattle.hider.specs.Samples.{sample_at}
use Rattle.hider.proofs.rooms.push_pixel.Given as goal

abbrev pub invariant-loop-cell : goal.invariant-loop-cell
invariant-loop-cell l = record {
  long : length l.spots.items ≡ length l.initial.spots.items + l.cell;
  room : vec_capacity l.spots ≡ vec_capacity l.initial.spots;
  kept : (m : ℕ) (d : Spot) → m < length l.initial.spots.items → slice_index_or l.spots.items m d ≡ slice_index_or l.initial.spots.items m d;
  each : (c : ℕ) (d : Spot) → c < l.cell → slice_index_or l.spots.items (length l.initial.spots.items + c) d ≡ (sample_at l.xs l.ys l.x l.y c).place;
}
