use Rattle.std.proofs.Common.{◌-◌, ◌≤◌, vec_len, vec_capacity}
use Rattle.hider.specs.Tiles.{AreEmpty}
use Rattle.hider.proofs.rooms.fill_lists.Given as goal

abbrev pub invariant-loop-alloc : goal.invariant-loop-alloc
invariant-loop-alloc l = record {
  room : l.count ≤ vec_capacity l.lists;
  empty : AreEmpty l.lists.items;
}

abbrev pub decreases-loop-alloc : goal.decreases-loop-alloc
decreases-loop-alloc l = l.count - vec_len l.lists
