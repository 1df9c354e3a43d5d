use Rattle.std.proofs.Common.{◌≡◌, ◌*◌, ◌-◌}
use Rattle.bound_split.specs.Lengths.{most_below, line_length}
use Rattle.bound_split.proofs.lengths.rows_length.Given as goal

abbrev pub invariant-loop-row : goal.invariant-loop-row
invariant-loop-row l = l.most ≡ most_below l.row (λ y. line_length l.places (l.width * y) 1 (l.width - 1))
