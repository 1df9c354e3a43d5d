use Rattle.std.proofs.Common.{Bool}
use Rattle.patches.specs.Parts.{Part}
use Rattle.bound_split.specs.Decisions.{decision_of}
use Rattle.bound_split.specs.Leaves.{IsDeepFrom, pending}
use Rattle.bound_split.specs.Culling.{IsTest, Skips, visits}
use Rattle.bound_split.proofs.walk.next_leaf.Given as goal

abbrev pub invariant-loop-piece : goal.invariant-loop-piece
invariant-loop-piece g l =
    let decide = decision_of l.camera l.rate l.bound (g.S.Surface.width_of l.s) (g.S.Surface.net_of l.s) in
    record {
      deep : IsDeepFrom 0 l.stack.items;
      skipped : (test : Part → Bool) → IsTest (λ p b. g.F.Fn.post l.keeps (p, tt) b) decide test → Skips test (pending decide l.fn.stack.items) (pending decide l.stack.items);
    }

abbrev pub decreases-loop-piece : goal.decreases-loop-piece
decreases-loop-piece g l = visits l.stack.items
