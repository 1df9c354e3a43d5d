use Rattle.parts.proofs.Places.{OrderedTo}
use Rattle.parts.proofs.placing.in_order.Given as goal

abbrev pub invariant-loop-n : goal.invariant-loop-n
invariant-loop-n l = OrderedTo l.all l.n l.ordered.items
