use Rattle.std.proofs.Common.{◌≡◌, ◌+◌, ◌≤◌, drop, map, length, take}
use Rattle.sl_ast.specs.Typed.{exprs, stmts}
use Rattle.sl_ast.specs.TypedView.{tree_expr, tree_stmt}
use Rattle.sl_ast.specs.Registers as spec
use Rattle.uniform_varying.specs.Counts.{counted}
use Rattle.uniform_varying.proofs.counted.+counted.Given as goal

abbrev pub invariant-rows_args-loop-e : goal.invariant-rows_args-loop-e
invariant-rows_args-loop-e l = record {
  behind : counted (l.rows + spec.rows_args (exprs (map tree_expr (drop l.e-index l.args))) l.us) ≡ counted (spec.rows_args (exprs (map tree_expr l.args)) l.us);
  small : l.rows ≤ 18446744073709551615;
}

abbrev pub invariant-rows_stmts-loop-s : goal.invariant-rows_stmts-loop-s
invariant-rows_stmts-loop-s l = record {
  behind : counted (l.rows + spec.rows_stmts (stmts (map tree_stmt (drop l.s-index l.body))) l.us.items) ≡ counted (spec.rows_stmts (stmts (map tree_stmt l.body)) l.fn.us.items);
  small : l.rows ≤ 18446744073709551615;
  front : take (length l.fn.us.items) l.us.items ≡ l.fn.us.items;
}
