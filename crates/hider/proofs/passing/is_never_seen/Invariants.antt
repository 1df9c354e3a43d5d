use Rattle.hider.proofs.passing.is_never_seen.Given as goal
use Rattle.std.proofs.Common.{◌≤◌}

abbrev pub invariant-loop-k : goal.invariant-loop-k
invariant-loop-k l = l.k ≤ 4
