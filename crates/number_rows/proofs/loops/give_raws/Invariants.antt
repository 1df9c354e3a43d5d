use Rattle.std.proofs.Common.{◌≡◌, ℕ, pos, ◌+◌, ◌<◌, length, get_or}
use Rattle.fixed_math.specs.Fixed.{IsRaw}
use Rattle.number_rows.specs.Planes.{plane_at}
use Rattle.number_rows.proofs.loops.give_raws.Given as goal

abbrev pub invariant-loop-i : goal.invariant-loop-i
invariant-loop-i l = record {
  long : length l.out ≡ length l.initial.out;
  each : (k : ℕ) → k < l.i → get_or l.out (l.start + k) (pos 0) ≡ plane_at l.a k;
  before : (k : ℕ) → k < l.start → get_or l.out k (pos 0) ≡ get_or l.initial.out k (pos 0);
  raws : ((k : ℕ) → IsRaw (get_or l.initial.out k (pos 0))) → (k : ℕ) → IsRaw (get_or l.out k (pos 0));
}
