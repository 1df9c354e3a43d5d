use Rattle.std.proofs.Common.{[], Ok, rules, map, subst}
use Rattle.sl_ast.specs.SyntaxView.{expr_of}
use Rattle.sl_expressions.specs.TypedView.{typed_of}
use Rattle.sl_expressions.specs.Views.{GivesAll, around_of, local_of}
use Rattle.sl_typing.proofs.LightArgs.{two_args}
use Rattle.sl_typing.proofs.stmts.solar_args.Goals as goal

pub returns : goal.returns
returns c =
    let first = c.added-first.ensures typed_of (Ok []) _ (search rules) c.expr-axis.ensures in
    let args = c.added.ensures typed_of _ _ first c.expr-angle.ensures in
    subst (GivesAll typed_of c.added.result) (two_args (around_of c.args.g.now) (map local_of c.args.scope.now) (expr_of c.args.axis.now) (expr_of c.args.angle.now)) args
