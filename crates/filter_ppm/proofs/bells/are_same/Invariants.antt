use Rattle.std.proofs.Common.{◌≡◌, ℕ, pos, ◌<◌, get_or}
use Rattle.filter_ppm.proofs.bells.are_same.Given as goal

abbrev pub invariant-loop-k : goal.invariant-loop-k
invariant-loop-k l = record {
  each : (i : ℕ) → i < l.k → get_or l.a i (pos 0) ≡ get_or l.b i (pos 0);
}
