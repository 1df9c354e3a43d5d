use Rattle.std.proofs.Common.{◌≡◌, ◌-◌, Bool, length}
use Rattle.std.specs.Prelude.{ℤ}
use Rattle.bound_split.specs.Extents.{pixels_of}
use Rattle.buckets.specs.Sampled.{TellsBehind}
use Rattle.buckets.specs.Standing.{Skips, to_come, shows_in}
use Rattle.buckets.proofs.leaf_walk.LeafWalk.next.Given as goal

abbrev pub invariant-loop-self : goal.invariant-loop-self
invariant-loop-self l = let f = l.initial.self.sights in record {
  frame : l.self.sights ≡ f;
  skipped : (back : ℤ → Bool) → TellsBehind l.tile back → Skips (shows_in f (pixels_of l.rect) back) (to_come f l.initial.self.number l.initial.self.pieces) (to_come f l.self.number l.self.pieces);
}

abbrev pub decreases-loop-self : goal.decreases-loop-self
decreases-loop-self l = length l.prims - l.self.number
