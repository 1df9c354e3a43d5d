use Rattle.std.proofs.Common.{◌≡◌}
use Rattle.bound_split.specs.Lengths.{most_below, line_length}
use Rattle.bound_split.proofs.lengths.columns_length.Given as goal

abbrev pub invariant-loop-column : goal.invariant-loop-column
invariant-loop-column l = l.most ≡ most_below l.column (λ x. line_length l.places x l.width l.steps)
