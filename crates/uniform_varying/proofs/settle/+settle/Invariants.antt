use Rattle.std.proofs.Common.{◌+◌, ◌*◌, max, ◌≡◌, drop, map, length, take}
use Rattle.sl_ast.specs.Typed.{exprs, stmts}
use Rattle.sl_ast.specs.TypedView.{tree_expr, tree_stmt}
use Rattle.sl_ast.specs.Settled as spec
use Rattle.uniform_varying.specs.Gives.{spot_of}
use Rattle.sl_ast.proofs.typed.TreeExpr.TheLaws.{the_size as expr_size}
use Rattle.sl_ast.proofs.typed.TreeStmt.TheLaws.{the_size as stmt_size}
use denote.Param.Weighed.{most}
use Rattle.uniform_varying.proofs.settle.+settle.Given as goal

abbrev pub invariant-settle_args-loop-e : goal.invariant-settle_args-loop-e
invariant-settle_args-loop-e l = spec.settled_args (exprs (map tree_expr (drop l.e-index l.args))) l.us (spot_of l.spot) l.lit ≡ spec.settled_args (exprs (map tree_expr l.args)) l.us (spot_of l.spot) l.fn.lit

abbrev pub invariant-settle_stmts-loop-s : goal.invariant-settle_stmts-loop-s
invariant-settle_stmts-loop-s l = record {
  behind : spec.settled_stmts (stmts (map tree_stmt (drop l.s-index l.body))) l.us.items (spot_of l.spot) l.lit ≡ spec.settled_stmts (stmts (map tree_stmt l.body)) l.fn.us.items (spot_of l.spot) l.fn.lit;
  front : take (length l.fn.us.items) l.us.items ≡ l.fn.us.items;
}

abbrev pub decreases-settle_expr : goal.decreases-settle_expr
decreases-settle_expr l = 4 * (expr_size l.e.now)

abbrev pub decreases-settle_args : goal.decreases-settle_args
decreases-settle_args l = 4 * (most expr_size l.args.now) + 1

abbrev pub decreases-settle_stmt : goal.decreases-settle_stmt
decreases-settle_stmt l = 4 * (stmt_size l.s.now)

abbrev pub decreases-settle_stmts : goal.decreases-settle_stmts
decreases-settle_stmts l = 4 * (most stmt_size l.body.now) + 1

abbrev pub decreases-settle_applied : goal.decreases-settle_applied
decreases-settle_applied l = 4 * (most expr_size l.args.now) + 2

abbrev pub decreases-settle_inside : goal.decreases-settle_inside
decreases-settle_inside l = 4 * (max (most stmt_size l.body.now) (expr_size l.value.now)) + 2

abbrev pub decreases-settle_call : goal.decreases-settle_call
decreases-settle_call l = 4 * (max (max (most expr_size l.args.now) (most stmt_size l.body.now)) (expr_size l.value.now)) + 3

abbrev pub decreases-settle_declared : goal.decreases-settle_declared
decreases-settle_declared l = 4 * (expr_size l.value.now) + 2

abbrev pub decreases-settle_assigned : goal.decreases-settle_assigned
decreases-settle_assigned l = 4 * (expr_size l.value.now) + 2

abbrev pub decreases-settle_branch : goal.decreases-settle_branch
decreases-settle_branch l = 4 * (max (expr_size l.test.now) (stmt_size l.then.now)) + 2

abbrev pub decreases-settle_branches : goal.decreases-settle_branches
decreases-settle_branches l = 4 * (max (max (expr_size l.test.now) (stmt_size l.then.now)) (stmt_size l.otherwise.now)) + 2

abbrev pub decreases-settle_while : goal.decreases-settle_while
decreases-settle_while l = 4 * (max (expr_size l.test.now) (stmt_size l.body.now)) + 2

abbrev pub decreases-settle_for : goal.decreases-settle_for
decreases-settle_for l = 4 * (max (max (max (most stmt_size l.first.now) (expr_size l.test.now)) (most stmt_size l.step.now)) (stmt_size l.body.now)) + 2

abbrev pub decreases-settle_lights : goal.decreases-settle_lights
decreases-settle_lights l = 4 * (max (most expr_size l.args.now) (stmt_size l.body.now)) + 2
