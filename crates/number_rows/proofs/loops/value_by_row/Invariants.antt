use Rattle.std.proofs.Common.{◌≡◌, ℕ, pos, ◌<◌, length, get_or}
use Rattle.number_rows.proofs.loops.value_by_row.Given as goal

abbrev pub invariant-loop-i : goal.invariant-loop-i
invariant-loop-i g l = record {
  long : length l.out ≡ length l.initial.out;
  each : (k : ℕ) → k < l.i → get_or l.out k (pos 0) ≡ g.K.Two.formula l.a (get_or l.b k (pos 0));
}
