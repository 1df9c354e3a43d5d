use Rattle.std.proofs.Common.{◌≡◌, length}
use Rattle.filter_ppm.specs.Bells.{AreFirstBells}
use Rattle.filter_ppm.proofs.bells.weights.Given as goal

abbrev pub invariant-loop-k : goal.invariant-loop-k
invariant-loop-k l = record {
  long : length l.weights.items ≡ l.k;
  each : AreFirstBells l.across l.down l.columns l.weights.items;
}
