use Rattle.std.proofs.Common.{[], Ok, rules, map, option_map, ap, sym, subst, ◌∙◌}
use Rattle.sl_ast.specs.SyntaxView.{expr_of, cone_of}
use Rattle.sl_expressions.specs.Exprs.{typed_args}
use Rattle.sl_expressions.specs.TypedView.{typed_of}
use Rattle.sl_expressions.specs.Views.{GivesAll, around_of, local_of}
use Rattle.sl_typing.specs.Stmts.{light_args}
use Rattle.sl_typing.proofs.LightArgs.{one_arg, three_args}
use Rattle.sl_typing.proofs.sets.light_args.Goals as goal

pub returns-in-None : goal.returns-in-None
returns-in-None c =
    let g = around_of c.args.g.now in
    let ls = map local_of c.args.scope.now in
    let args = c.added.ensures typed_of (Ok []) _ (search rules) c.expr-place.ensures in
    let whole = subst (GivesAll typed_of c.added.result) (one_arg g ls (expr_of c.args.place.now)) args in
    search rules

pub returns-in-Some : goal.returns-in-Some
returns-in-Some c =
    let g = around_of c.args.g.now in
    let ls = map local_of c.args.scope.now in
    let args = c.three.ensures _ _ _ c.expr-place.ensures c.expr-axis.ensures c.expr-angle.ensures in
    let is = ap (λ o. typed_args g ls (light_args (expr_of c.args.place.now) (option_map cone_of o))) c.in-Some.is in
    subst (GivesAll typed_of c.three.result)
    (three_args g ls (expr_of c.args.place.now) (expr_of c.in-Some.cone.axis) (expr_of c.in-Some.cone.angle) ∙ sym is) args
