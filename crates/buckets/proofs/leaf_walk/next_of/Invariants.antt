use Rattle.std.proofs.Common.{◌≡◌, Bool}
use Rattle.std.specs.Prelude.{ℤ}
use Rattle.bound_split.specs.Culling.{Skips, visits}
use Rattle.bound_split.specs.Extents.{pixels_of}
use Rattle.bound_split.specs.Leaves.{pending}
use Rattle.buckets.specs.Culled.{part_shows}
use Rattle.buckets.specs.Pictures.{decide}
use Rattle.buckets.specs.Sampled.{TellsBehind}
use Rattle.buckets.proofs.leaf_walk.next_of.Given as goal

abbrev pub invariant-loop-piece : goal.invariant-loop-piece
invariant-loop-piece l =
    let f = l.initial.sights in
    let decides = decide f.camera l.prim in
    record {
      frame : l.sights ≡ f;
      skipped : (back : ℤ → Bool) → TellsBehind l.tile back → Skips (part_shows f l.prim (pixels_of l.rect) back) (pending decides l.initial.walk) (pending decides l.walk);
    }

abbrev pub decreases-loop-piece : goal.decreases-loop-piece
decreases-loop-piece l = visits l.walk
