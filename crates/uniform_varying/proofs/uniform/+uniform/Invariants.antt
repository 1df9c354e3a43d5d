use Rattle.std.proofs.Common.{◌+◌, ◌*◌, max, ◌≡◌, drop, map, length, take}
use Rattle.sl_ast.specs.Typed.{exprs, stmts}
use Rattle.sl_ast.specs.TypedView.{tree_expr, tree_stmt}
use Rattle.sl_ast.specs.Classes as spec
use Rattle.sl_ast.proofs.typed.TreeExpr.TheLaws.{the_size as expr_size}
use Rattle.sl_ast.proofs.typed.TreeStmt.TheLaws.{the_size as stmt_size}
use denote.Param.Weighed.{most}
use Rattle.uniform_varying.proofs.uniform.+uniform.Given as goal

abbrev pub invariant-are_uniform-loop-e : goal.invariant-are_uniform-loop-e
invariant-are_uniform-loop-e l = spec.are_uniform (exprs (map tree_expr (drop l.e-index l.args))) l.us ≡ spec.are_uniform (exprs (map tree_expr l.args)) l.us

abbrev pub invariant-stmts_uniform-loop-s : goal.invariant-stmts_uniform-loop-s
invariant-stmts_uniform-loop-s l = record {
  behind : spec.stmts_uniform (stmts (map tree_stmt (drop l.s-index l.body))) l.us.items ≡ spec.stmts_uniform (stmts (map tree_stmt l.body)) l.fn.us.items;
  front : take (length l.fn.us.items) l.us.items ≡ l.fn.us.items;
}

abbrev pub decreases-is_uniform : goal.decreases-is_uniform
decreases-is_uniform l = 3 * (expr_size l.e.now)

abbrev pub decreases-are_uniform : goal.decreases-are_uniform
decreases-are_uniform l = 3 * (most expr_size l.args.now) + 1

abbrev pub decreases-stmt_uniform : goal.decreases-stmt_uniform
decreases-stmt_uniform l = 3 * (stmt_size l.s.now)

abbrev pub decreases-stmts_uniform : goal.decreases-stmts_uniform
decreases-stmts_uniform l = 3 * (most stmt_size l.body.now) + 1

abbrev pub decreases-value_uniform : goal.decreases-value_uniform
decreases-value_uniform l = 3 * (expr_size l.value.now) + 2

abbrev pub decreases-branch_uniform : goal.decreases-branch_uniform
decreases-branch_uniform l = 3 * (max (expr_size l.test.now) (stmt_size l.body.now)) + 2

abbrev pub decreases-branches_uniform : goal.decreases-branches_uniform
decreases-branches_uniform l = 3 * (max (max (expr_size l.test.now) (stmt_size l.then.now)) (stmt_size l.otherwise.now)) + 2

abbrev pub decreases-for_uniform : goal.decreases-for_uniform
decreases-for_uniform l = 3 * (max (max (max (most stmt_size l.first.now) (expr_size l.test.now)) (most stmt_size l.step.now)) (stmt_size l.body.now)) + 2

abbrev pub decreases-lights_uniform : goal.decreases-lights_uniform
decreases-lights_uniform l = 3 * (max (most expr_size l.args.now) (stmt_size l.body.now)) + 2
