use Rattle.std.proofs.Common.{subst}
use Rattle.bound_split.specs.Leaves.{IsDeepFrom}
use Rattle.bound_split.proofs.Stacks.{IsDeepFrom-pop}
use Rattle.bound_split.proofs.walk.Walk.take.Goals as goal

pub invariant_of-self-2 : goal.invariant_of-self-2
invariant_of-self-2 c = (IsDeepFrom-pop 0 c.pop.new.self.items c.in_ok-piece.piece (subst (IsDeepFrom 0) c.in_ok-piece.ensures.items c.self.invariant)).0
