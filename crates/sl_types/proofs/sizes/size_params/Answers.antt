use Rattle.std.proofs.Common.{◌+◌, drop, map, arith, ap, sym, ◌∙◌}
use Rattle.std.proofs.lemmas.List.{at_drop_more}
use Rattle.sl_types.specs.Folds.{fold}
use Rattle.sl_types.specs.Extents.{under, beside, extent_params, counting}
use Rattle.sl_types.specs.Sizes.{cut, extent_of}
use Rattle.sl_expressions.specs.TypedView.{typed_of}
use Rattle.sl_typing.specs.Views.{param_of}
use Rattle.sl_types.proofs.Joins.{cut_twice, joined}
use Rattle.sl_types.proofs.sizes.size_params.Goals as goal

pub loop-one-preserved : goal.loop-one-preserved
loop-one-preserved c = λ fs is.
    let h = c.loop-one.invariant fs is in
    let before = extent_of c.loop-one.before in
    let after = extent_of c.with-before.result in
    let value = fold counting fs (typed_of c.one-item.result.value) in
    let rest = extent_params fs (map param_of (drop (c.loop-one.one-index + 1) c.args.params.now)) in
    let grown = c.with-before.ensures before (under value) h.0 (c.over.ensures value (c.size.ensures fs is)) in
    let split = at_drop_more (λ ps. cut (beside before (extent_params fs (map param_of ps)))) c.args.params.now c.loop-one.one-index c.one-item.result (omega arith) in
    let item = ap (λ p. cut (beside before (beside (under (fold counting fs (typed_of p.value))) rest))) (sym c.one-item.is) in
    (cut_twice after (beside before (under value)) grown, joined after before (under value) rest grown ∙ sym item ∙ sym split ∙ h.1)
