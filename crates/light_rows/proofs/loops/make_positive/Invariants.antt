use Rattle.std.proofs.Common.{◌≡◌, ℕ, pos, ◌<◌, ◌≤◌, length, get_or}
use Rattle.builtins.specs.Numbers.{max}
use Rattle.light_rows.proofs.loops.make_positive.Given as goal

abbrev pub invariant-loop-i : goal.invariant-loop-i
invariant-loop-i l = record {
  long : length l.out ≡ length l.initial.out;
  each : (k : ℕ) → k < l.i → get_or l.out k (pos 0) ≡ max (pos 0) (get_or l.initial.out k (pos 0));
  rest : (k : ℕ) → l.i ≤ k → get_or l.out k (pos 0) ≡ get_or l.initial.out k (pos 0);
}
