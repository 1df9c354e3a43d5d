use Rattle.filter_ppm.proofs.Rows.{IsSoFar}
use Rattle.filter_ppm.proofs.adding.add_to_row.Given as goal

abbrev pub invariant-loop-x : goal.invariant-loop-x
invariant-loop-x l = IsSoFar l.weights l.sample l.r l.y l.n l.fn.columns.first l.x l.initial.totals l.totals
