use Rattle.std.proofs.Common.{◌≡◌, List, drop, map}
use Rattle.sl_types.specs.Folds.{fold_stmts}
use Rattle.sl_types.specs.Extents.{Extent, beside, counting}
use Rattle.sl_types.specs.Sizes.{cut, extent_of}
use Rattle.sl_expressions.specs.Typed as T
use Rattle.sl_expressions.specs.TypedView.{tstmt_of}
use Rattle.sl_types.proofs.sizes.+size_stmt.Given as goal

abbrev pub invariant-size_stmts-loop-s : goal.invariant-size_stmts-loop-s
invariant-size_stmts-loop-s l = (fs : List Extent) → map extent_of l.sizes ≡ map cut fs
    → (extent_of l.before ≡ cut (extent_of l.before))
    × (cut (beside (extent_of l.before) (fold_stmts counting fs (T.stmts (map tstmt_of (drop l.s-index l.body))))) ≡ cut (fold_stmts counting fs (T.stmts (map tstmt_of l.body))))
