use Rattle.std.proofs.Common.{◌≡◌, ℕ, pos, ◌+◌, ◌-◌, ◌/◌, ◌<◌, ◌≤◌, length, get_or}
use Rattle.filter_ppm.proofs.bells.is_even.Given as goal

abbrev pub invariant-loop-place : goal.invariant-loop-place
invariant-loop-place l = record {
  each : (k : ℕ) → length l.table / 2 + 1 ≤ k → k < l.place → get_or l.table (length l.table - k) (pos 0) ≡ get_or l.table k (pos 0);
}
