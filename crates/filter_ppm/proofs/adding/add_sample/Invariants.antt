use Rattle.filter_ppm.proofs.Rows.{AreSoFar}
use Rattle.filter_ppm.proofs.adding.add_sample.Given as goal

abbrev pub invariant-loop-y : goal.invariant-loop-y
invariant-loop-y l = AreSoFar l.weights l.sample l.r l.n l.y l.initial.totals l.totals
