use Rattle.std.proofs.Common.{◌≡◌, ℕ, pos, ◌+◌, ◌<◌, length, get_or}
use Rattle.number_rows.proofs.loops.take_raws.Given as goal

abbrev pub invariant-loop-i : goal.invariant-loop-i
invariant-loop-i l = record {
  long : length l.out ≡ length l.initial.out;
  each : (k : ℕ) → k < l.i → get_or l.out k (pos 0) ≡ get_or l.raws (l.start + k) (pos 0);
}
