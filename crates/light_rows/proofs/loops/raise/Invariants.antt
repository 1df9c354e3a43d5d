use Rattle.std.proofs.Common.{◌≡◌, ℕ, pos, ◌<◌, ◌≤◌, length, get_or}
use Rattle.light_rows.specs.Loops.{raised}
use Rattle.light_rows.proofs.loops.raise.Given as goal

abbrev pub invariant-loop-i : goal.invariant-loop-i
invariant-loop-i l = record {
  long : length l.weights ≡ length l.initial.weights;
  each : (k : ℕ) → k < l.i → get_or l.weights k (pos 0) ≡ raised (get_or l.shown k (pos 0)) (get_or l.initial.weights k (pos 0)) (get_or l.exponents k (pos 0));
  rest : (k : ℕ) → l.i ≤ k → get_or l.weights k (pos 0) ≡ get_or l.initial.weights k (pos 0);
}
