use Rattle.std.proofs.Common.{map, ap, sym, ◌∙◌}
use Rattle.sl_types.specs.Folds.{fold, fold_stmts, fold_body}
use Rattle.sl_types.specs.Extents.{under, counting}
use Rattle.sl_types.specs.Sizes.{cut}
use Rattle.sl_expressions.specs.Typed as T
use Rattle.sl_expressions.specs.TypedView.{typed_of, tstmt_of}
use Rattle.sl_expressions.specs.Views.{body_of}
use Rattle.sl_types.proofs.sizes.size_body.Goals as goal

pub returns-in-Ok : goal.returns-in-Ok
returns-in-Ok c = λ fs is.
    let b = c.in-Ok.body in
    let value = fold counting fs (typed_of b.value) in
    let stmts = c.size_stmts.ensures fs is ∙ ap (λ ss. cut (fold_stmts counting fs (T.stmts (map tstmt_of ss)))) c.as_slice.ensures in
    c.with.ensures (fold_stmts counting fs (T.stmts (map tstmt_of b.stmts))) (under value) stmts (c.over.ensures value (c.size.ensures fs is))
    ∙ ap (λ r. cut (fold_body counting fs (body_of r))) (sym c.in-Ok.is)
