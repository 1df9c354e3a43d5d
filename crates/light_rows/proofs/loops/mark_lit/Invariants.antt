use Rattle.std.proofs.Common.{◌≡◌, ℕ, pos, ◌<◌, ◌≤◌, ◌&&◌, int_le, length, get_or}
use Rattle.builtins.specs.Values.{is_nonzero}
use Rattle.number_rows.specs.Truths.{truth}
use Rattle.light_rows.proofs.loops.mark_lit.Given as goal

abbrev pub invariant-loop-i : goal.invariant-loop-i
invariant-loop-i l = record {
  long : length l.cosines ≡ length l.initial.cosines;
  each : (k : ℕ) → k < l.i → get_or l.cosines k (pos 0) ≡ truth (is_nonzero (get_or l.lit k (pos 0)) && int_le (pos 0) (get_or l.initial.cosines k (pos 0)));
  rest : (k : ℕ) → l.i ≤ k → get_or l.cosines k (pos 0) ≡ get_or l.initial.cosines k (pos 0);
}
