use Rattle.std.proofs.Common.{◌<◌, ap, sym, map, length, get_or, ◌++◌, ◌∙◌, arith}
use Rattle.std.proofs.lemmas.List.{length-map, get_or-map}
use Rattle.sl_ast.specs.TypedView.{local_of}
use Rattle.grid_variables.specs.Variables.{bound_variable}
use Rattle.grid_rows.specs.Given.{rows_or}
use Rattle.grid_rows.proofs.Params.{params_pushed, params_passed, no_name, no_value}
use Rattle.grid_rows.proofs.arguments.push_params.Goals as goal
use Rattle.grid_rows.proofs.arguments.push_params.Goals.{then-not-params-k+in_ok-push_or, else-not-params-k}

pub loop-k-preserved : goal.loop-k-preserved
loop-k-preserved c = elim c.if-not-params-k.branch [
  | then-not-params-k+in_ok-push_or w ↦
      (let l = c.args.leaf.now in
      let named = length-map c.args.names.now local_of ∙ c.requires.named in
      let there : c.loop-k.k < length c.args.names.now = let e = c.requires.named in let t = c.loop-k-test.true in omega (arith, e, t) in
      let name = get_or-map local_of c.args.names.now c.loop-k.k w.index-names-k.result (local_of w.index-names-k.result) there in
      params_pushed l (map local_of c.args.names.now) c.args.params.now c.args.values.now named c.requires.alike c.loop-k.k (local_of w.index-names-k.result) _ w.index-values-k.result c.loop-k-test.true _ c.loop-k.rows c.if-not-params-k.rows w.if-not-params-k.true
      (w.rows-is ∙ w.in_ok-push_or.ensures
      ∙ ap (λ p. c.loop-k.rows ++ rows_or l (bound_variable p.name l.prim.vars) w.index-values-k.result) (sym name)
      ∙ ap (λ v. c.loop-k.rows ++ rows_or l (bound_variable (get_or (map local_of c.args.names.now) c.loop-k.k (local_of w.index-names-k.result)).name l.prim.vars) v) w.index-values-k.is) c.loop-k.invariant)
  | else-not-params-k w ↦
      params_passed c.args.leaf.now (map local_of c.args.names.now) c.args.params.now c.args.values.now (length-map c.args.names.now local_of ∙ c.requires.named) c.requires.alike c.loop-k.k no_name _ no_value c.loop-k-test.true _ c.loop-k.rows c.if-not-params-k.rows w.if-not-params-k.false
      w.rows-is c.loop-k.invariant
]
