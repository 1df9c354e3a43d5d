use Rattle.std.proofs.Common.{take}
use Rattle.filter_ppm.specs.Sums.{IsOver}
use Rattle.pixel_account.specs.Summing.{as_total, IsSumOf}
use Rattle.pixel_account.proofs.sums.sums_of.Given as goal

abbrev pub invariant-loop-k : goal.invariant-loop-k
invariant-loop-k l = record {
  value : IsSumOf (take l.k l.samples) (as_total l.sums);
  over : IsOver l.k (as_total l.sums);
}
