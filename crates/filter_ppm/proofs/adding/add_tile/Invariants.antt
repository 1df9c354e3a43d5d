use Rattle.std.proofs.Common.{List}
use Rattle.hider.specs.declared.fragment.Fragment.{Fragment}
use Rattle.hider.specs.declared.sample.Sample.{Sample}
use Rattle.hider.specs.Composite.{composite}
use Rattle.hider.specs.Tiles.{Shows}
use Rattle.filter_ppm.specs.Sums.{HasTotals, AreOver, AreTotals}
use Rattle.filter_ppm.proofs.adding.add_tile.Given as goal

abbrev pub invariant-loop-n : goal.invariant-loop-n
invariant-loop-n l = record {
  long : HasTotals l.r l.totals;
  over : AreOver l.n l.r l.totals;
  totals : (f : Sample → List Fragment) → Shows l.tile f → AreTotals l.weights (λ s. composite (f s)) l.tile.grid l.n l.r l.totals;
}
