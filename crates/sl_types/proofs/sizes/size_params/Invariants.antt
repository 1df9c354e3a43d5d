use Rattle.std.proofs.Common.{◌≡◌, List, drop, map}
use Rattle.sl_types.specs.Extents.{Extent, beside, extent_params}
use Rattle.sl_types.specs.Sizes.{cut, extent_of}
use Rattle.sl_typing.specs.Views.{param_of}
use Rattle.sl_types.proofs.sizes.size_params.Given as goal

abbrev pub invariant-loop-one : goal.invariant-loop-one
invariant-loop-one l = (fs : List Extent) → map extent_of l.sizes ≡ map cut fs
    → (extent_of l.before ≡ cut (extent_of l.before))
    × (cut (beside (extent_of l.before) (extent_params fs (map param_of (drop l.one-index l.params)))) ≡ cut (extent_params fs (map param_of l.params)))
