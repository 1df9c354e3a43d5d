use Rattle.std.proofs.Common.{rules, ◌+◌, ◌∷◌, [], ◌++◌, drop, map, ap, sym, ◌∙◌}
use Rattle.std.proofs.lemmas.List.{at_drop_all, append_assoc, map-append}
use Rattle.sl_ast.specs.TypedView.{local_of}
use Rattle.sl_types.specs.Inline.{declared_of}
use Rattle.sl_typing.specs.Views.{param_of}
use Rattle.sl_types.proofs.Defaulted.{params_split}
use Rattle.sl_types.proofs.inline.declared.Goals as goal

pub loop-param-preserved : goal.loop-param-preserved
loop-param-preserved c =
    let made = c.loop-param.made.items in
    let rest = map declared_of (map param_of (drop (c.loop-param.param-index + 1) c.args.params.now)) in
    let split = params_split (λ ps. map local_of made ++ map declared_of (map param_of ps)) c.args.params.now c.loop-param.param-index c.param-item.result c.loop-param-test.true c.param-item.is in
    ap (λ ds. map local_of ds ++ rest) c.in_ok-push.ensures.items
    ∙ ap (λ ls. ls ++ rest) (map-append local_of made (c.in_ok-one.one ∷ []))
    ∙ append_assoc (map local_of made) (local_of c.in_ok-one.one ∷ []) rest
    ∙ ap (λ l. map local_of made ++ l ∷ rest) c.in_ok-one.ensures ∙ sym split ∙ c.loop-param.invariant

pub returns : goal.returns
returns c =
    let end = at_drop_all (λ ps. map local_of c.loop-param.made.items ++ map declared_of (map param_of ps)) c.args.params.now c.loop-param.param-index c.loop-param-test.false in
    search rules
