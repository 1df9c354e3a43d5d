use Rattle.std.proofs.Common.{◌≡◌, List, [], drop, map}
use Rattle.sl_types.specs.Extents.{Extent}
use Rattle.sl_types.specs.Sizes.{cut, extents_from, extent_of}
use Rattle.sl_expressions.specs.Views.{callee_of}
use Rattle.sl_types.proofs.sizes.sizes_from.Given as goal

abbrev pub invariant-loop-one : goal.invariant-loop-one
invariant-loop-one l = (fs : List Extent) × (map extent_of l.sizes.items ≡ map cut fs)
    × (extents_from l.by_default fs (map callee_of (drop l.one-index l.known)) ≡ extents_from l.by_default [] (map callee_of l.known))
