use Rattle.std.proofs.Common.{[], true, false, map, ap, ◌∙◌}
use Rattle.sl_types.specs.Folds.{fold_stmts}
use Rattle.sl_types.specs.Extents.{beside, counting, extent_params}
use Rattle.sl_types.specs.Sizes.{cut, extents_from, extent_of}
use Rattle.sl_expressions.specs.Typed as T
use Rattle.sl_expressions.specs.TypedView.{tstmt_of}
use Rattle.sl_expressions.specs.Views.{callee_of}
use Rattle.sl_typing.specs.Views.{param_of, program_of}
use Rattle.sl_types.proofs.sizes.size_program.Goals as goal

pub returns : goal.returns
returns c =
    let p = program_of c.args.program.now in
    let defaults = extents_from true [] p.known in
    let bodies = extents_from false [] p.known in
    let by_default = ap (λ xs. map extent_of xs) c.as_slice-4.ensures.value ∙ c.in_ok-by_default.ensures ∙ ap (λ k. map cut (extents_from true [] (map callee_of k))) c.as_slice.ensures.value in
    let sizes = ap (λ xs. map extent_of xs) c.as_slice-6.ensures.value ∙ c.in_ok-sizes.ensures ∙ ap (λ k. map cut (extents_from false [] (map callee_of k))) c.as_slice-2.ensures.value in
    let params = c.size_params-params.ensures defaults by_default ∙ ap (λ ps. cut (extent_params defaults (map param_of ps))) c.as_slice-3.ensures.value in
    let body = c.size_stmts-body.ensures bodies sizes ∙ ap (λ ss. cut (fold_stmts counting bodies (T.stmts (map tstmt_of ss)))) c.as_slice-5.ensures.value in
    let a = extent_params defaults p.params in
    let b = fold_stmts counting bodies (T.stmts p.body) in
    c.over.ensures (beside a b) (c.with.ensures a b params body)
