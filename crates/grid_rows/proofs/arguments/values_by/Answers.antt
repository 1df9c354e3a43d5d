use Rattle.std.proofs.Common.{◌<◌, ap, sym, map, length, get_or, [], ◌∷◌, ◌++◌, ◌∙◌, arith}
use Rattle.std.proofs.lemmas.List.{length-map, get_or-map}
use Rattle.sl_ast.specs.TypedView.{local_of}
use Rattle.grid_variables.specs.Variables.{bound_variable, value_or}
use Rattle.grid_rows.proofs.Params.{values_pushed, values_passed, no_name, no_value}
use Rattle.grid_rows.proofs.arguments.values_by.Goals as goal
use Rattle.grid_rows.proofs.arguments.values_by.Goals.{then-params-k+in_ok-value_or+in_ok-push, else-params-k}

pub loop-k-preserved : goal.loop-k-preserved
loop-k-preserved c = elim c.if-params-k.branch [
  | then-params-k+in_ok-value_or+in_ok-push w ↦
      (let l = c.args.leaf.now in
      let named = length-map c.args.names.now local_of ∙ c.requires.named in
      let there : c.loop-k.k < length c.args.names.now = let e = c.requires.named in let t = c.loop-k-test.true in omega (arith, e, t) in
      let name = get_or-map local_of c.args.names.now c.loop-k.k w.index-names-k.result (local_of w.index-names-k.result) there in
      values_pushed l (map local_of c.args.names.now) c.args.params.now c.args.values.now named c.requires.alike c.loop-k.k (local_of w.index-names-k.result) _ w.index-values-k.result c.loop-k-test.true _ c.loop-k.given.items c.if-params-k.given.items w.if-params-k.true
      (ap (λ r. r.items) w.given-is ∙ w.in_ok-push.ensures.items
      ∙ ap (λ v. c.loop-k.given.items ++ v ∷ []) (w.in_ok-value_or.ensures
      ∙ ap (λ p. value_or l 0 (bound_variable p.name l.prim.vars) w.index-values-k.result) (sym name)
      ∙ ap (λ v. value_or l 0 (bound_variable (get_or (map local_of c.args.names.now) c.loop-k.k (local_of w.index-names-k.result)).name l.prim.vars) v) w.index-values-k.is)) c.loop-k.invariant)
  | else-params-k w ↦
      values_passed c.args.leaf.now (map local_of c.args.names.now) c.args.params.now c.args.values.now (length-map c.args.names.now local_of ∙ c.requires.named) c.requires.alike c.loop-k.k no_name _ no_value c.loop-k-test.true _ c.loop-k.given.items c.if-params-k.given.items w.if-params-k.false
      (ap (λ r. r.items) w.given-is) c.loop-k.invariant
]
