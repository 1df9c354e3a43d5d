use Rattle.std.proofs.Common.{◌≡◌, ℕ, ◌<◌, List}
use Rattle.fixed_math.specs.Axes.{origin}
use Rattle.hider.specs.declared.fragment.Fragment.{Fragment}
use Rattle.hider.specs.declared.sample.Sample.{Sample}
use Rattle.hider.specs.Composite.{composite}
use Rattle.hider.specs.Tiles.{Shows, sample_of}
use Rattle.filter_ppm.proofs.black.all_black.Given as goal

abbrev pub invariant-loop-n : goal.invariant-loop-n
invariant-loop-n l = record {
  black : (f : Sample → List Fragment) → Shows l.tile f → (i : ℕ) → i < l.n → composite (f (sample_of l.tile.grid i)) ≡ origin;
}
