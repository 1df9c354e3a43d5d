use Rattle.std.proofs.Common.{◌<◌, ◌≤◌, length, slice_index_or}
use Rattle.std.specs.Prelude.{◌<ℤ◌}
use Rattle.hider.proofs.list.place_in.Given as goal

abbrev pub invariant-loop-place : goal.invariant-loop-place
invariant-loop-place l = record {
  inside : l.place ≤ length l.list;
  farther : l.place < length l.list → l.f.depth <ℤ (slice_index_or l.list l.place l.f).depth;
}

abbrev pub decreases-loop-place : goal.decreases-loop-place
decreases-loop-place l = l.place
