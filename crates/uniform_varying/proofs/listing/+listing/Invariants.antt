use Rattle.std.proofs.Common.{◌+◌, ◌*◌, max, ◌≡◌, ◌++◌, drop, map, length, take}
use Rattle.sl_ast.specs.Typed.{exprs, stmts}
use Rattle.sl_ast.specs.TypedView.{tree_expr, tree_stmt}
use Rattle.sl_ast.specs.Classes as spec
use Rattle.sl_ast.proofs.typed.TreeExpr.TheLaws.{the_size as expr_size}
use Rattle.sl_ast.proofs.typed.TreeStmt.TheLaws.{the_size as stmt_size}
use denote.Param.Weighed.{most}
use Rattle.uniform_varying.proofs.listing.+listing.Given as goal

abbrev pub invariant-list_args-loop-e : goal.invariant-list_args-loop-e
invariant-list_args-loop-e l = l.list.items ++ spec.classes_args (exprs (map tree_expr (drop l.e-index l.args))) l.us l.uniform ≡ l.fn.list.items ++ spec.classes_args (exprs (map tree_expr l.args)) l.us l.uniform

abbrev pub invariant-list_stmts-loop-s : goal.invariant-list_stmts-loop-s
invariant-list_stmts-loop-s l = record {
  behind : l.list.items ++ spec.classes_stmts (stmts (map tree_stmt (drop l.s-index l.body))) l.us.items l.uniform ≡ l.fn.list.items ++ spec.classes_stmts (stmts (map tree_stmt l.body)) l.fn.us.items l.uniform;
  front : take (length l.fn.us.items) l.us.items ≡ l.fn.us.items;
}

abbrev pub decreases-list_expr : goal.decreases-list_expr
decreases-list_expr l = 3 * (expr_size l.e.now)

abbrev pub decreases-list_args : goal.decreases-list_args
decreases-list_args l = 3 * (most expr_size l.args.now) + 1

abbrev pub decreases-list_stmt : goal.decreases-list_stmt
decreases-list_stmt l = 3 * (stmt_size l.s.now)

abbrev pub decreases-list_stmts : goal.decreases-list_stmts
decreases-list_stmts l = 3 * (most stmt_size l.body.now) + 1

abbrev pub decreases-list_branch : goal.decreases-list_branch
decreases-list_branch l = 3 * (max (expr_size l.test.now) (stmt_size l.then.now)) + 2

abbrev pub decreases-list_branches : goal.decreases-list_branches
decreases-list_branches l = 3 * (max (max (expr_size l.test.now) (stmt_size l.then.now)) (stmt_size l.otherwise.now)) + 2

abbrev pub decreases-list_while : goal.decreases-list_while
decreases-list_while l = 3 * (max (expr_size l.test.now) (stmt_size l.body.now)) + 2

abbrev pub decreases-list_for : goal.decreases-list_for
decreases-list_for l = 3 * (max (max (max (most stmt_size l.first.now) (expr_size l.test.now)) (most stmt_size l.step.now)) (stmt_size l.body.now)) + 2

abbrev pub decreases-list_lights : goal.decreases-list_lights
decreases-list_lights l = 3 * (max (most expr_size l.args.now) (stmt_size l.body.now)) + 2
