use Rattle.std.proofs.Common.{◌≡◌, drop, map, length, take}
use Rattle.sl_ast.specs.Typed as T
use Rattle.sl_ast.specs.TypedView.{tree_expr, tree_stmt}
use Rattle.sl_meaning.specs.Lowered as spec
use Rattle.sl_lowering.proofs.CoreParts.{exprs_before, args_before, stmts_before}
use Rattle.sl_lowering.proofs.lowering.+lowering.Given as goal

abbrev pub invariant-exprs-loop-e : goal.invariant-exprs-loop-e
invariant-exprs-loop-e l = exprs_before l.made.items (spec.exprs (T.exprs (map tree_expr (drop l.e-index l.es))) l.us l.uniform) ≡ spec.exprs (T.exprs (map tree_expr l.es)) l.us l.uniform

abbrev pub invariant-arguments-loop-e : goal.invariant-arguments-loop-e
invariant-arguments-loop-e l = args_before l.made.items (spec.arguments (T.exprs (map tree_expr (drop l.e-index l.es))) l.left l.us l.uniform) ≡ spec.arguments (T.exprs (map tree_expr l.es)) l.formals l.us l.uniform

abbrev pub invariant-stmts-loop-s : goal.invariant-stmts-loop-s
invariant-stmts-loop-s l = record {
  tree : stmts_before l.made.items (spec.stmts (T.stmts (map tree_stmt (drop l.s-index l.body))) l.us.items l.uniform) ≡ spec.stmts (T.stmts (map tree_stmt l.body)) l.fn.us.items l.uniform;
  front : take (length l.fn.us.items) l.us.items ≡ l.fn.us.items;
}
