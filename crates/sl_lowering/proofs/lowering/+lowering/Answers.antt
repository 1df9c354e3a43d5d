use Rattle.std.proofs.Common.{◌≡◌, map, take, length, IfOk, arith, ap, subst, ◌∙◌}
use Rattle.sl_ast.specs.Classes as classes
use Rattle.sl_ast.specs.Typed as T
use Rattle.sl_ast.specs.TypedView.{tree_expr, tree_stmt}
use Rattle.sl_ast.proofs.TypedShown.{call_shown, for_shown}
use Rattle.uniform_varying.proofs.Scopes.{after_kept}
use Rattle.sl_meaning.specs.CoreView.{expr_of, args_of, stmt_of, stmts_of}
use Rattle.sl_meaning.specs.Lowered as spec
use Rattle.sl_lowering.proofs.Walks.{exprs_step, exprs_done, args_step, args_done, args_short, stmts_step, stmts_done, call_lowered, for_lowered}
use Rattle.sl_lowering.proofs.lowering.+lowering.Goals as goal

pub exprs-loop-e-preserved : goal.exprs-loop-e-preserved
exprs-loop-e-preserved t c =
    exprs_step c.loop-e.made.items _ c.in_ok-one.one c.args.es.now c.loop-e.e-index c.e-item.result c.args.us.now c.args.uniform (omega arith) c.e-item.is
    c.in_ok-push.ensures.items c.in_ok-one.ensures ∙ c.loop-e.invariant

pub exprs-returns : goal.exprs-returns
exprs-returns t c = exprs_done c.loop-e.made.items c.args.es.now c.loop-e.e-index c.args.us.now c.args.uniform (omega arith) ∙ c.loop-e.invariant

pub arguments-loop-e-preserved : goal.arguments-loop-e-preserved
arguments-loop-e-preserved t c =
    args_step c.loop-e.made.items _ c.in_ok-value.value c.args.es.now c.loop-e.e-index c.e-item.result c.loop-e.left.now c.in-Some.rest.now c.in-Some.formal.now
    c.args.us.now c.args.uniform (omega arith) c.e-item.is c.in-Some.ensures.cases.0 c.in_ok-push.ensures.items c.in_ok-value.ensures ∙ c.loop-e.invariant

pub arguments-returns : goal.arguments-returns
arguments-returns t c =
    args_done c.loop-e.made.items c.args.es.now c.loop-e.e-index c.loop-e.left.now c.args.us.now c.args.uniform (omega arith) ∙ c.loop-e.invariant

pub arguments-returns-in_default : goal.arguments-returns-in_default
arguments-returns-in_default t c =
    args_short c.loop-e.made.items c.args.es.now c.loop-e.e-index c.loop-e.left.now c.args.us.now c.args.uniform c.in_default.ensures.cases ∙ c.loop-e.invariant

pub stmts-loop-s-preserved : goal.stmts-loop-s-preserved
stmts-loop-s-preserved t c = record {
  tree = stmts_step c.loop-s.made.items _ c.in_ok-one.one c.args.body.now c.loop-s.s-index c.s-item.result c.loop-s.us.items c.stmt.new.us.items c.enter.new.us.items
      c.args.uniform (omega arith) c.s-item.is c.in_ok-push.ensures.items c.in_ok-one.ensures.tree c.in_ok-one.ensures.same c.in_ok-enter.ensures ∙ c.loop-s.invariant.tree;
  front = ap (take (length c.args.us.now.items)) (c.in_ok-enter.ensures ∙ ap (classes.after (tree_stmt c.s-item.result)) c.in_ok-one.ensures.same)
      ∙ after_kept (tree_stmt c.s-item.result) c.args.us.now.items c.loop-s.us.items c.loop-s.invariant.front;
}

pub stmts-returns-clause-tree : goal.stmts-returns-clause-tree
stmts-returns-clause-tree t c =
    stmts_done c.loop-s.made.items c.args.body.now c.loop-s.s-index c.loop-s.us.items c.args.uniform (omega arith) ∙ c.loop-s.invariant.tree

pub expr-returns-in_ok-value-in-Call : goal.expr-returns-in_ok-value-in-Call
expr-returns-in_ok-value-in-Call t c =
    let u = c.args.uniform in
    subst (λ r. IfOk c.call_node.result (λ x. expr_of x ≡ r))
    (call_lowered (tree_expr c.args.e.now) (T.exprs (map tree_expr c.in-Call.args)) c.in-Call.formals (T.stmts (map tree_stmt c.in-Call.body)) c.in-Call.returned
    (tree_expr c.in-Call.value.value) c.in-Call.kind c.in-Call.place c.args.us.now c.in_ok-inside-in-Call.inside.items c.stmts.new.us.items c.enter_all.new.us.items u
    (args_of c.in_ok-args-in-Call.args.items) (stmts_of c.in_ok-does-in-Call.does.items) c.value_type.result (expr_of c.in_ok-value-in-Call.value)
    (call_shown c.args.e.now c.in-Call.args c.in-Call.formals c.in-Call.body c.in-Call.returned c.in-Call.value c.in-Call.kind c.in-Call.place c.in-Call.is)
    (c.in_ok-args-in-Call.ensures
    ∙ ap (λ l. spec.arguments (T.exprs (map tree_expr l)) c.as_slice-in-Call-2.result.now c.args.us.now u) c.as_slice-in-Call.ensures
    ∙ ap (λ l. spec.arguments (T.exprs (map tree_expr c.in-Call.args)) l c.args.us.now u) c.as_slice-in-Call-2.ensures)
    (c.in_ok-inside-in-Call.ensures ∙ ap classes.formal_classes c.as_slice-in-Call-3.ensures)
    (c.in_ok-does-in-Call.ensures.tree ∙ ap (λ l. spec.stmts (T.stmts (map tree_stmt l)) c.in_ok-inside-in-Call.inside.items u) c.as_slice-in-Call-4.ensures)
    c.in_ok-does-in-Call.ensures.same
    (c.in_ok-enter_all-in-Call.ensures ∙ ap (λ l. classes.after_all (T.stmts (map tree_stmt l)) c.stmts.new.us.items) c.as_slice-in-Call-5.ensures)
    (c.in_ok-value-in-Call.ensures
    ∙ ap (λ x. spec.expr (tree_expr x) c.deref-in-Call.result.now u) c.deref.ensures
    ∙ ap (λ l. spec.expr (tree_expr c.in-Call.value.value) l u) c.deref-in-Call.ensures.value)
    c.value_type.ensures)
    c.call_node.ensures

pub stmt-returns-in_ok-turns-in-For-clause-tree : goal.stmt-returns-in_ok-turns-in-For-clause-tree
stmt-returns-in_ok-turns-in-For-clause-tree t c =
    subst (λ r. IfOk c.for_node.result (λ x. stmt_of x ≡ r))
    (for_lowered (tree_stmt c.args.s.now) (T.stmts (map tree_stmt c.in-For.first)) (T.stmts (map tree_stmt c.as_slice-in-For.result.now))
    (T.stmts (map tree_stmt c.in-For.step)) (T.stmts (map tree_stmt c.as_slice-in-For-2.result.now)) (tree_expr c.in-For.test)
    (tree_stmt c.in-For.body.value) (tree_stmt c.deref-in-For.result.now) (tree_stmt c.deref-in-For-2.result.now) c.in-For.place
    c.args.us.now.items c.is_uniform_loop-in-For.new.us.items c.stmts.new.us.items c.stmts-in-For.new.us.items c.alone-in-For.new.us.items
    c.deref-in-For-3.result.now c.args.uniform c.in_ok-control-in-For.control
    (stmts_of c.in_ok-begun-in-For.begun.items) (stmts_of c.in_ok-step-in-For.step.items) (stmts_of c.in_ok-body-in-For.body.items)
    (stmt_of c.in_ok-turns-in-For.turns)
    (for_shown c.args.s.now c.in-For.first c.in-For.test c.in-For.step c.in-For.body c.in-For.place c.in-For.is)
    (ap tree_stmt c.deref-in-For.ensures)
    c.in_ok-control-in-For.ensures.class
    c.in_ok-control-in-For.ensures.same
    (ap (λ l. T.stmts (map tree_stmt l)) c.as_slice-in-For.ensures)
    c.in_ok-begun-in-For.ensures.tree
    c.in_ok-begun-in-For.ensures.same
    (ap (λ l. T.stmts (map tree_stmt l)) c.as_slice-in-For-2.ensures)
    c.in_ok-step-in-For.ensures.tree
    c.in_ok-step-in-For.ensures.same
    (ap tree_stmt c.deref-in-For-2.ensures)
    c.in_ok-body-in-For.ensures.tree
    c.in_ok-body-in-For.ensures.same
    c.deref-in-For-3.ensures.value
    c.in_ok-turns-in-For.ensures)
    c.for_node.ensures
