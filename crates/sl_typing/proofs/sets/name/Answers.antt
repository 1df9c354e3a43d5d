use Rattle.std.proofs.Common.{[], ◌∷◌, Ok, false, map, ap, ap₂, sym, ◌≡◌, ◌∙◌}
use Rattle.std.proofs.lemmas.List.{map-append}
use Rattle.sl_expressions.specs.Scope.{level_of}
use Rattle.sl_expressions.specs.TypedView.{tstmt_of}
use Rattle.sl_expressions.specs.Views.{local_of}
use Rattle.sl_typing.specs.Stmts.{is_since}
use Rattle.sl_typing.proofs.After.{name_added}
use Rattle.sl_typing.proofs.Scopes.{extends_same, left_same, left_longer}
use Rattle.sl_typing.proofs.sets.name.Goals as goal

pub returns-then-is_since-clause-extends : goal.returns-then-is_since-clause-extends
returns-then-is_since-clause-extends c = extends_same _

pub returns-in_err-stmt-clause-extends : goal.returns-in_err-stmt-clause-extends
returns-in_err-stmt-clause-extends c = extends_same _

pub returns-in_err-push-clause-extends : goal.returns-in_err-push-clause-extends
returns-in_err-push-clause-extends c = extends_same _

pub returns-in_err-push-2-clause-extends : goal.returns-in_err-push-2-clause-extends
returns-in_err-push-2-clause-extends c = left_same _ _ c.in_err-push-2.ensures.err

pub returns-clause-extends : goal.returns-clause-extends
returns-clause-extends c = left_longer _ _ _ c.in_ok-push-2.ensures.ok

pub returns-clause-gives : goal.returns-clause-gives
returns-clause-gives c =
    let ls = map local_of c.args.scope.now in
    let new : is_since c.args.from (level_of c.args.d.now.name ls) ≡ false = ap (is_since c.args.from) (sym c.level.ensures) ∙ sym c.is_since.ensures ∙ c.if-is_since.false in
    name_added _ _ _ _ _ _ _ new c.in_ok-stmt.ensures
    ∙ ap₂ (λ ts ls. Ok (ts, ls)) (sym (ap (map tstmt_of) c.in_ok-push.ensures.items ∙ map-append tstmt_of c.args.done.now.items (c.in_ok-stmt.stmt ∷ [])))
    (sym (ap (map local_of) c.in_ok-push-2.ensures.ok ∙ map-append local_of c.args.scope.now (_ ∷ [])))
