use Rattle.std.proofs.Common.{◌≡◌, ◌+◌, ◌∙◌, ◌++◌, ◌∷◌, [], arith, ap, sym, map}
use Rattle.std.specs.List.{range_with_len}
use Rattle.std.proofs.lemmas.List.FromFn.{map-range_with_len_more}
use Rattle.sl_ast.specs.declared.typed.Value.{Value}
use Rattle.sl_ast.specs.TreeView.{tree_of}
use Rattle.acceptance.specs.Bound.{bound_value}
use Rattle.acceptance.proofs.values.bound_values.Goals as goal

pub loop-index-preserved : goal.loop-index-preserved
loop-index-preserved c =
    let n = c.loop-index.index in
    let values = bound_value (tree_of c.args.tree.now) c.args.request.now in
    let before : 0 + n ≡ n = omega arith in
    c.in_ok-push.ensures.items ∙ ap (λ vs. vs ++ c.in_ok-bound_value.field-0 ∷ []) c.loop-index.invariant
    ∙ ap (λ (v : Value). map values (range_with_len 0 n) ++ v ∷ []) c.in_ok-bound_value.ensures ∙ sym (map-range_with_len_more values 0 n n before)
