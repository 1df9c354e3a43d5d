use Rattle.std.proofs.Common.{◌+◌, ◌*◌, ◌≡◌, ◌++◌, drop, map}
use Rattle.sl_ast.specs.Textures.{look_ups_args, look_ups_stmts}
use Rattle.sl_ast.specs.Typed.{exprs, stmts}
use Rattle.sl_ast.specs.TypedView.{tree_expr, tree_stmt}
use Rattle.sl_ast.proofs.typed.TreeExpr.TheLaws.{the_size as expr_size}
use Rattle.sl_ast.proofs.typed.TreeStmt.TheLaws.{the_size as stmt_size}
use denote.Param.Weighed.{most}
use Rattle.sl_look_ups.specs.Nodes.{nodes}
use Rattle.sl_look_ups.proofs.listing.+listing.Given as goal

abbrev pub invariant-list_args-loop-e : goal.invariant-list_args-loop-e
invariant-list_args-loop-e l = nodes l.list.items ++ look_ups_args (exprs (map tree_expr (drop l.e-index l.args))) ≡ nodes l.fn.list.items ++ look_ups_args (exprs (map tree_expr l.args))

abbrev pub invariant-list_stmts-loop-s : goal.invariant-list_stmts-loop-s
invariant-list_stmts-loop-s l = nodes l.list.items ++ look_ups_stmts (stmts (map tree_stmt (drop l.s-index l.body))) ≡ nodes l.fn.list.items ++ look_ups_stmts (stmts (map tree_stmt l.body))

abbrev pub decreases-list_expr : goal.decreases-list_expr
decreases-list_expr l = 2 * (expr_size l.e.now)

abbrev pub decreases-list_args : goal.decreases-list_args
decreases-list_args l = 2 * (most expr_size l.args.now) + 1

abbrev pub decreases-list_stmt : goal.decreases-list_stmt
decreases-list_stmt l = 2 * (stmt_size l.s.now)

abbrev pub decreases-list_stmts : goal.decreases-list_stmts
decreases-list_stmts l = 2 * (most stmt_size l.body.now) + 1
