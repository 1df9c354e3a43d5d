use Rattle.std.proofs.Common.{◌≡◌, ℕ, ◌-◌, ◌<◌, ◌≤◌, false}
use Rattle.fixed_math.specs.Unit.{fits_at}
use Rattle.fixed_math.proofs.direction.shift_for.Given as goal

abbrev pub invariant-loop-k : goal.invariant-loop-k
invariant-loop-k l = record {
  bound : l.k ≤ 38;
  below : (j : ℕ) → j < l.k → fits_at l.x l.y l.z j ≡ false;
}

abbrev pub decreases-loop-k : goal.decreases-loop-k
decreases-loop-k l = 39 - l.k
