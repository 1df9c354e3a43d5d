use Rattle.std.proofs.Common.{◌≡◌, ℕ, pos, ◌<◌, ◌/◌, ◌-ℤ◌, length, get_or}
use Rattle.filter_ppm.specs.Tables.{part}
use Rattle.filter_ppm.proofs.tables.table.Given as goal

abbrev pub invariant-loop-k : goal.invariant-loop-k
invariant-loop-k l = record {
  long : length l.table.items ≡ l.k;
  parts : (i : ℕ) → i < l.k → get_or l.table.items i (pos 0) ≡ part l.filter l.width (pos i -ℤ pos (l.width / 2));
}
