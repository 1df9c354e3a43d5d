use Rattle.std.proofs.Common.{◌≡◌, List, drop, take, map}
use Rattle.sl_types.specs.Folds.{fold, fold_args}
use Rattle.sl_types.specs.Extents.{Extent, beside, counting}
use Rattle.sl_types.specs.Sizes.{cut, extent_of}
use Rattle.sl_expressions.specs.Typed as T
use Rattle.sl_expressions.specs.TypedView.{typed_of, tlink_of}
use Rattle.sl_types.proofs.sizes.+size.Given as goal

abbrev pub invariant-size_args-loop-e : goal.invariant-size_args-loop-e
invariant-size_args-loop-e l = (fs : List Extent) → map extent_of l.sizes ≡ map cut fs
    → (extent_of l.before ≡ cut (extent_of l.before))
    × (cut (beside (extent_of l.before) (fold_args counting fs (T.exprs (map typed_of (drop l.e-index l.args))))) ≡ cut (fold_args counting fs (T.exprs (map typed_of l.args))))

abbrev pub invariant-size_links-loop-link : goal.invariant-size_links-loop-link
invariant-size_links-loop-link l = (fs : List Extent) (e : T.Expr) → map extent_of l.sizes ≡ map cut fs → extent_of l.fn.first ≡ cut (fold counting fs e)
    → extent_of l.before ≡ cut (fold counting fs (T.chained e (map tlink_of (take l.link-index l.links))))
