use Rattle.std.proofs.Common.{◌≡◌, ◌+◌, [], drop, length, map}
use Rattle.sl_ast.specs.TypedView.{tree_expr, tree_stmt}
use Rattle.sl_types.specs.Inline.{count, count_args, count_stmts, inline, inline_args, inline_stmts}
use Rattle.sl_types.specs.Placing.{functions, weight_known, weighing}
use Rattle.sl_expressions.specs.Typed as T
use Rattle.sl_expressions.specs.TypedView.{typed_of, tlink_of, tstmt_of}
use Rattle.sl_expressions.specs.Views.{callee_of}
use Rattle.sl_types.specs.Folds.{fold, fold_args, fold_stmt, fold_stmts}
use Rattle.sl_types.proofs.Chains.{count_links, tree_links}
use Rattle.sl_types.proofs.Placed.{args_before, stmts_before}
use Rattle.sl_types.proofs.inline.+inline.Given as goal

abbrev pub decreases-call : goal.decreases-call
decreases-call l = weight_known l.by_default (map callee_of l.known.now)

abbrev pub decreases-expr : goal.decreases-expr
decreases-expr l = fold weighing [] (typed_of l.e.now) + weight_known l.by_default (map callee_of l.known.now)

abbrev pub decreases-exprs : goal.decreases-exprs
decreases-exprs l = fold_args weighing [] (T.exprs (map typed_of l.es.now)) + weight_known l.by_default (map callee_of l.known.now)

abbrev pub decreases-chain : goal.decreases-chain
decreases-chain l = 1 + fold weighing [] (T.chained (typed_of l.first.now) (map tlink_of l.links.now)) + weight_known l.by_default (map callee_of l.known.now)

abbrev pub decreases-stmt : goal.decreases-stmt
decreases-stmt l = 1 + fold_stmt weighing [] (tstmt_of l.s.now) + weight_known l.by_default (map callee_of l.known.now)

abbrev pub decreases-condition : goal.decreases-condition
decreases-condition l = 1 + fold weighing [] (typed_of l.e.now) + weight_known l.by_default (map callee_of l.known.now)

abbrev pub decreases-branch : goal.decreases-branch
decreases-branch l = 2 + fold_stmt weighing [] (tstmt_of l.s.now) + weight_known l.by_default (map callee_of l.known.now)

abbrev pub decreases-stmts : goal.decreases-stmts
decreases-stmts l = fold_stmts weighing [] (T.stmts (map tstmt_of l.body.now)) + weight_known l.by_default (map callee_of l.known.now)

abbrev pub invariant-exprs-loop-e : goal.invariant-exprs-loop-e
invariant-exprs-loop-e l = record {
  tree : args_before (map tree_expr l.made.items) (inline_args (functions l.by_default l.known) l.next (T.exprs (map typed_of (drop l.e-index l.es))))
      ≡ inline_args (functions l.by_default l.known) l.initial.next (T.exprs (map typed_of l.es));
  next : l.next + count_args (functions l.by_default l.known) (T.exprs (map typed_of (drop l.e-index l.es)))
      ≡ l.initial.next + count_args (functions l.by_default l.known) (T.exprs (map typed_of l.es));
}

abbrev pub invariant-chain-loop-link : goal.invariant-chain-loop-link
invariant-chain-loop-link l = record {
  number : l.number ≡ l.start + length (drop l.link-index l.links);
  tree : tree_links (functions l.by_default l.known) l.start (tree_expr l.value) l.next (map tlink_of (drop l.link-index l.links))
      ≡ inline (functions l.by_default l.known) l.start (T.chained (typed_of l.first) (map tlink_of l.links));
  next : l.next + count_links (functions l.by_default l.known) (map tlink_of (drop l.link-index l.links))
      ≡ l.start + count (functions l.by_default l.known) (T.chained (typed_of l.first) (map tlink_of l.links));
}

abbrev pub invariant-stmts-loop-s : goal.invariant-stmts-loop-s
invariant-stmts-loop-s l = record {
  tree : stmts_before (map tree_stmt l.made.items) (inline_stmts (functions l.by_default l.known) l.next (T.stmts (map tstmt_of (drop l.s-index l.body))))
      ≡ inline_stmts (functions l.by_default l.known) l.initial.next (T.stmts (map tstmt_of l.body));
  next : l.next + count_stmts (functions l.by_default l.known) (T.stmts (map tstmt_of (drop l.s-index l.body)))
      ≡ l.initial.next + count_stmts (functions l.by_default l.known) (T.stmts (map tstmt_of l.body));
}
