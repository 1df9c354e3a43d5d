use Rattle.std.proofs.Common.{◌≡◌, length}
use Rattle.rib_reader.specs.Lists.{pairs_of, of_pairs}
use Rattle.rib_reader.specs.PairSteps.{with_rest}
use Rattle.rib_reader.proofs.pairs.pairs.Given as goal

abbrev pub invariant-loop-front : goal.invariant-loop-front
invariant-loop-front l = with_rest l.listing (of_pairs l.follows l.declarations (pairs_of l.rest)) ≡ of_pairs l.follows l.declarations (pairs_of l.values)

abbrev pub decreases-loop-front : goal.decreases-loop-front
decreases-loop-front l = length l.rest
