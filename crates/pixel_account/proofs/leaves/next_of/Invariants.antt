use Rattle.bound_split.specs.Culling.{Skips, visits}
use Rattle.bound_split.specs.Extents.{pixels_of}
use Rattle.bound_split.specs.Leaves.{pending}
use Rattle.buckets.specs.Pictures.{decide}
use Rattle.pixel_account.specs.Stacks.{meets_in}
use Rattle.pixel_account.proofs.leaves.next_of.Given as goal

abbrev pub invariant-loop-piece : goal.invariant-loop-piece
invariant-loop-piece l =
    let d = decide l.frame.camera l.prim in
    Skips (meets_in l.frame l.prim (pixels_of l.rect)) (pending d l.initial.walk) (pending d l.walk)

abbrev pub decreases-loop-piece : goal.decreases-loop-piece
decreases-loop-piece l = visits l.walk
