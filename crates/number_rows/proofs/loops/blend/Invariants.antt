use Rattle.std.proofs.Common.{◌≡◌, ℕ, ℤ, false, cond, ◌<◌, ◌≤◌, length, get_or}
use Rattle.number_rows.proofs.loops.blend.Given as goal

abbrev pub invariant-loop-i : goal.invariant-loop-i
invariant-loop-i l = record {
  long : length l.out ≡ length l.initial.out;
  each : (d : ℤ) (k : ℕ) → k < l.i → get_or l.out k d ≡ cond (get_or l.live k false) (get_or l.row k d) (get_or l.initial.out k d);
  rest : (d : ℤ) (k : ℕ) → l.i ≤ k → get_or l.out k d ≡ get_or l.initial.out k d;
}
