use Rattle.std.proofs.Common.{◌≡◌, ◌+◌, ◌<◌, ℕ, length, slice_index_or, vec_capacity}
use Rattle.sample_pattern.specs.Pattern.{time}
use Rattle.hider.proofs.rooms.push_times.Given as goal

abbrev pub invariant-loop-cell : goal.invariant-loop-cell
invariant-loop-cell l = record {
  long : length l.times.items ≡ length l.initial.times.items + l.cell;
  room : vec_capacity l.times ≡ vec_capacity l.initial.times;
  kept : (m d : ℕ) → m < length l.initial.times.items → slice_index_or l.times.items m d ≡ slice_index_or l.initial.times.items m d;
  each : (c d : ℕ) → c < l.cell → slice_index_or l.times.items (length l.initial.times.items + c) d ≡ time l.x l.y c;
}
