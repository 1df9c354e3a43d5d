use Rattle.std.proofs.Common.{◌≡◌, ℕ, pos, ◌<◌, length, get_or}
use Rattle.fixed_math.specs.Fixed.{IsRaw}
use Rattle.filter_ppm.specs.Tables.{power}
use Rattle.filter_ppm.proofs.tables.powers.Given as goal

abbrev pub invariant-loop-k : goal.invariant-loop-k
invariant-loop-k l = record {
  long : length l.powers.items ≡ l.k;
  values : (i : ℕ) → i < l.k → get_or l.powers.items i (pos 0) ≡ power (pos i);
  raws : (i : ℕ) → i < l.k → IsRaw (get_or l.powers.items i (pos 0));
}
