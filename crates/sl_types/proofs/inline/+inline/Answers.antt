use Rattle.std.proofs.Common.{◌≡◌, ◌+◌, ℕ, List, [], IfOk, OnOk, length, map, get_or, arith, ap, ap₂, sym, subst, ◌∙◌}
use Rattle.std.proofs.lemmas.List.{at_drop_more, length-map}
use Rattle.sl_ast.specs.Typed as A
use Rattle.sl_ast.specs.TypedView.{tree_expr, tree_stmt}
use Rattle.sl_types.specs.Folds.{fold, fold_args, fold_stmt, fold_stmts}
use Rattle.sl_types.specs.Extents.{absent}
use Rattle.sl_types.specs.Inline.{Built, nothing, extents_of, count, count_args, count_stmt, count_stmts, inline, inline_args, inline_stmt, inline_stmts}
use Rattle.sl_types.specs.Placing.{functions, weighing}
use Rattle.sl_expressions.specs.Typed as T
use Rattle.sl_expressions.specs.TypedView.{typed_of, tlink_of, tstmt_of}
use Rattle.sl_types.proofs.Chains.{chain_shown, count_links, tree_links, links_counted, links_weighed, links_inlined, links_split, links_end, light_link, pair_tree, call_tree, on_ok}
use Rattle.sl_types.proofs.Numbered.{extent_at}
use Rattle.sl_types.proofs.Placed.{light_arg, light_stmt, args_before, stmts_before, args_alone, stmts_alone, args_split, stmts_split, args_end, stmts_end, args_step, stmts_step, for_tree}
use Rattle.sl_types.proofs.StmtTrees.{apply_tree, block_tree, declare_tree, set_tree, test_tree, else_tree, repeat_tree, lights_tree, after_one, after_two, after_three, after_four}
use Rattle.sl_types.proofs.TypedNodes.{apply_shown, call_shown, block_shown, group_shown, for_shown}
use Rattle.sl_expressions.specs.declared.typed.TypedExpr.{TypedExpr}
use Rattle.sl_expressions.specs.declared.typed.TypedStmt.{TypedStmt}
use Rattle.sl_types.proofs.inline.+inline.Goals as goal

abbrev weighed : TypedStmt → ℕ
weighed s = fold_stmt weighing [] (tstmt_of s)

abbrev counted : List Built → TypedStmt → ℕ
counted fs s = count_stmt fs (tstmt_of s)

abbrev counted_expr : List Built → TypedExpr → ℕ
counted_expr fs e = count fs (typed_of e)

pub expr-call-requires : goal.expr-call-requires
expr-call-requires t c =
    let fs = functions c.args.by_default c.args.known.now in
    let q = ap (count fs) (call_shown c.args.e.now c.in-Call.function c.in-Call.args c.in-Call.kind c.in-Call.line c.in-Call.is) in
    let x : (get_or (extents_of fs) c.in-Call.function absent).nodes ≡ (get_or fs c.in-Call.function nothing).extent.nodes = ap (λ y. y.nodes) (extent_at fs c.in-Call.function) in
    let d = ap (λ xs. count_args fs (T.exprs (map typed_of xs))) c.as_slice-in-Call.ensures in
    let w = ap (fold weighing []) (call_shown c.args.e.now c.in-Call.function c.in-Call.args c.in-Call.kind c.in-Call.line c.in-Call.is) in
    (omega (arith, c.decreases, w), omega (arith, c.requires, q, x, d, c.place-at-in-Call.ensures.next, c.in_ok-args-in-Call.ensures.next))

pub expr-returns-in_ok-args-in-Call-clause-next : goal.expr-returns-in_ok-args-in-Call-clause-next
expr-returns-in_ok-args-in-Call-clause-next t c =
    let fs = functions c.args.by_default c.args.known.now in
    let q = ap (count fs) (call_shown c.args.e.now c.in-Call.function c.in-Call.args c.in-Call.kind c.in-Call.line c.in-Call.is) in
    let x : (get_or (extents_of fs) c.in-Call.function absent).nodes ≡ (get_or fs c.in-Call.function nothing).extent.nodes = ap (λ y. y.nodes) (extent_at fs c.in-Call.function) in
    let d = ap (λ xs. count_args fs (T.exprs (map typed_of xs))) c.as_slice-in-Call.ensures in
    let e : c.exprs-in-Call.new.next + (get_or fs c.in-Call.function nothing).extent.nodes ≡ c.args.next.now + count fs (typed_of c.args.e.now) =
    omega (arith, q, x, d, c.place-at-in-Call.ensures.next, c.in_ok-args-in-Call.ensures.next) in
    subst (λ n. OnOk c.call.result (c.call.new.next ≡ n)) e c.call.ensures.next

pub expr-chain-requires : goal.expr-chain-requires
expr-chain-requires t c =
    let fs = functions c.args.by_default c.args.known.now in
    let q = ap (count fs) (chain_shown c.args.e.now c.in-Chain.first c.in-Chain.links c.in-Chain.operation c.in-Chain.operand c.in-Chain.kind c.in-Chain.line c.in-Chain.is) in
    let w = ap (fold weighing []) (chain_shown c.args.e.now c.in-Chain.first c.in-Chain.links c.in-Chain.operation c.in-Chain.operand c.in-Chain.kind c.in-Chain.line c.in-Chain.is) in
    let d = ap₂ (λ x xs. count fs (T.chained (typed_of x) (map tlink_of xs))) c.deref.ensures c.as_slice-in-Chain.ensures in
    let v = ap₂ (λ x xs. fold weighing [] (T.chained (typed_of x) (map tlink_of xs))) c.deref.ensures c.as_slice-in-Chain.ensures in
    (omega (arith, c.decreases, w, v), omega (arith, c.requires, q, d, c.place-at-in-Chain.ensures.next))

pub expr-expr-requires : goal.expr-expr-requires
expr-expr-requires t c =
    let fs = functions c.args.by_default c.args.known.now in
    let q = ap (count fs) (chain_shown c.args.e.now c.in-Chain.first c.in-Chain.links c.in-Chain.operation c.in-Chain.operand c.in-Chain.kind c.in-Chain.line c.in-Chain.is) in
    let w = ap (fold weighing []) (chain_shown c.args.e.now c.in-Chain.first c.in-Chain.links c.in-Chain.operation c.in-Chain.operand c.in-Chain.kind c.in-Chain.line c.in-Chain.is) in
    let d = ap₂ (λ x xs. count fs (T.chained (typed_of x) (map tlink_of xs))) c.deref.ensures c.as_slice-in-Chain.ensures in
    let b = ap (λ x. count fs (typed_of x)) c.deref-in-Chain.ensures in
    let v = ap (λ x. fold weighing [] (typed_of x)) c.deref-in-Chain.ensures in
    (omega (arith, c.decreases, w, v), omega (arith, c.requires, q, d, b, c.place-at-in-Chain.ensures.next, c.in_ok-before-in-Chain.ensures.next))

pub expr-returns-in_ok-operand-in-Chain-clause-tree : goal.expr-returns-in_ok-operand-in-Chain-clause-tree
expr-returns-in_ok-operand-in-Chain-clause-tree t c =
    let fs = functions c.args.by_default c.args.known.now in
    let shown = ap₂ (λ x xs. T.apply c.in-Chain.operation (T.more (T.chained (typed_of x) (map tlink_of xs)) (T.more (typed_of c.deref-in-Chain.result.now) T.none)) c.in-Chain.kind c.in-Chain.line)
    c.deref.ensures c.as_slice-in-Chain.ensures in
    let last = ap (λ x. T.apply c.in-Chain.operation (T.more (T.chained (typed_of c.in-Chain.first.value) (map tlink_of c.in-Chain.links)) (T.more (typed_of x) T.none)) c.in-Chain.kind c.in-Chain.line)
    c.deref-in-Chain.ensures in
    subst (λ r. IfOk c.pair_node.result (λ t. tree_expr t ≡ r))
    (pair_tree fs c.args.next.now c.in-Chain.operation _ _ c.in-Chain.kind c.in-Chain.line _ _ _ _ _ c.place-at-in-Chain.ensures.place c.place-at-in-Chain.ensures.next
    c.in_ok-before-in-Chain.ensures.tree c.in_ok-before-in-Chain.ensures.next c.in_ok-operand-in-Chain.ensures.tree
    ∙ ap (inline fs c.args.next.now) (shown ∙ last ∙ sym (chain_shown c.args.e.now c.in-Chain.first c.in-Chain.links c.in-Chain.operation c.in-Chain.operand c.in-Chain.kind c.in-Chain.line c.in-Chain.is)))
    c.pair_node.ensures

pub expr-returns-in_ok-operand-in-Chain-clause-next : goal.expr-returns-in_ok-operand-in-Chain-clause-next
expr-returns-in_ok-operand-in-Chain-clause-next t c =
    let fs = functions c.args.by_default c.args.known.now in
    let q = ap (count fs) (chain_shown c.args.e.now c.in-Chain.first c.in-Chain.links c.in-Chain.operation c.in-Chain.operand c.in-Chain.kind c.in-Chain.line c.in-Chain.is) in
    let d = ap₂ (λ x xs. count fs (T.chained (typed_of x) (map tlink_of xs))) c.deref.ensures c.as_slice-in-Chain.ensures in
    let b = ap (λ x. count fs (typed_of x)) c.deref-in-Chain.ensures in
    on_ok c.pair_node.result (omega (arith, q, d, b, c.place-at-in-Chain.ensures.next, c.in_ok-before-in-Chain.ensures.next, c.in_ok-operand-in-Chain.ensures.next))

pub expr-returns-in_ok-args-in-Call-clause-tree : goal.expr-returns-in_ok-args-in-Call-clause-tree
expr-returns-in_ok-args-in-Call-clause-tree t c =
    let fs = functions c.args.by_default c.args.known.now in
    let q = call_shown c.args.e.now c.in-Call.function c.in-Call.args c.in-Call.kind c.in-Call.line c.in-Call.is in
    let d = ap (λ xs. T.call c.in-Call.function (T.exprs (map typed_of xs)) c.in-Call.kind c.in-Call.line) c.as_slice-in-Call.ensures in
    subst (λ r. IfOk c.call.result (λ t. tree_expr t ≡ r))
    (call_tree fs c.args.next.now c.in-Call.function _ c.in-Call.kind c.in-Call.line _ _ _ _ c.place-at-in-Call.ensures.place c.place-at-in-Call.ensures.next
    c.in_ok-args-in-Call.ensures.tree c.in_ok-args-in-Call.ensures.next ∙ ap (inline fs c.args.next.now) (d ∙ sym q))
    c.call.ensures.tree

pub chain-number_after-number-requires : goal.chain-number_after-number-requires
chain-number_after-number-requires t c =
    let fs = functions c.args.by_default c.args.known.now in
    let ls = map tlink_of c.args.links.now in
    omega (arith, c.requires, links_counted fs (typed_of c.args.first.now) ls, length-map c.args.links.now tlink_of)

pub chain-expr-requires : goal.chain-expr-requires
chain-expr-requires t c =
    let fs = functions c.args.by_default c.args.known.now in
    let ls = map tlink_of c.args.links.now in
    (omega (arith, c.decreases, links_weighed (typed_of c.args.first.now) ls), omega (arith, c.requires, links_counted fs (typed_of c.args.first.now) ls, length-map c.args.links.now tlink_of, c.number_after-number.ensures))

pub chain-loop-link-init : goal.chain-loop-link-init
chain-loop-link-init t c =
    let fs = functions c.args.by_default c.args.known.now in
    let n = c.args.next.now in
    let e = typed_of c.args.first.now in
    let ls = map tlink_of c.args.links.now in
    let m = length-map c.args.links.now tlink_of in
    let p : c.number_after-number.result ≡ n + length ls = omega (arith, c.number_after-number.ensures, m) in
    let q : c.expr.new.next ≡ n + length ls + count fs e = omega (arith, p, c.in_ok-value.ensures.next) in
    record {
      number = c.number_after-number.ensures;
      tree = ap₂ (λ v k. tree_links fs n v k ls) (c.in_ok-value.ensures.tree ∙ ap (λ k. inline fs k e) p) q ∙ sym (links_inlined fs n e ls);
      next = omega (arith, q, links_counted fs e ls);
    }

pub chain-expr-requires-in-loop-link : goal.chain-expr-requires-in-loop-link
chain-expr-requires-in-loop-link t c =
    let fs = functions c.args.by_default c.args.known.now in
    let s = ap (count_links fs) (links_split c.args.links.now c.loop-link.link-index c.link-item.result (omega arith) c.link-item.is) in
    let l = light_link c.args.links.now c.loop-link.link-index c.link-item.result (omega arith) c.link-item.is in
    (omega (arith, c.decreases, l, links_weighed (typed_of c.args.first.now) (map tlink_of c.args.links.now)), omega (arith, c.requires, s, c.loop-link.invariant.next))

pub chain-returns-clause-tree : goal.chain-returns-clause-tree
chain-returns-clause-tree t c =
    let fs = functions c.args.by_default c.args.known.now in
    sym (ap (tree_links fs c.args.next.now (tree_expr c.loop-link.value) c.loop-link.next) (links_end c.args.links.now c.loop-link.link-index (omega arith))) ∙ c.loop-link.invariant.tree

pub chain-returns-clause-next : goal.chain-returns-clause-next
chain-returns-clause-next t c =
    let fs = functions c.args.by_default c.args.known.now in
    omega (arith, c.loop-link.invariant.next, ap (count_links fs) (links_end c.args.links.now c.loop-link.link-index (omega arith)))

pub exprs-expr-requires : goal.exprs-expr-requires
exprs-expr-requires t c =
    let fs = functions c.args.by_default c.args.known.now in
    let s = ap (count_args fs) (args_split c.args.es.now c.loop-e.e-index c.e-item.result (omega arith) c.e-item.is) in
    let l = light_arg c.args.es.now c.loop-e.e-index c.e-item.result (omega arith) c.e-item.is in
    (omega (arith, c.decreases, l), omega (arith, c.requires, s, c.loop-e.invariant.next))

pub exprs-loop-e-preserved : goal.exprs-loop-e-preserved
exprs-loop-e-preserved t c =
    let fs = functions c.args.by_default c.args.known.now in
    let s = ap (count_args fs) (args_split c.args.es.now c.loop-e.e-index c.e-item.result (omega arith) c.e-item.is) in
    record {
      tree = args_step fs c.loop-e.made.items _ c.in_ok-one.one c.args.es.now c.loop-e.e-index c.e-item.result c.loop-e.next c.expr.new.next (omega arith) c.e-item.is
          c.in_ok-push.ensures.items c.in_ok-one.ensures.tree c.in_ok-one.ensures.next ∙ c.loop-e.invariant.tree;
      next = omega (arith, s, c.loop-e.invariant.next, c.in_ok-one.ensures.next);
    }

pub exprs-returns-clause-tree : goal.exprs-returns-clause-tree
exprs-returns-clause-tree t c =
    let fs = functions c.args.by_default c.args.known.now in
    let made = map tree_expr c.loop-e.made.items in
    sym (args_alone made) ∙ sym (ap (λ z. args_before made (inline_args fs c.loop-e.next z)) (args_end c.args.es.now c.loop-e.e-index (omega arith))) ∙ c.loop-e.invariant.tree

pub stmt-stmts-requires-in-For : goal.stmt-stmts-requires-in-For
stmt-stmts-requires-in-For t c =
    let fs = functions c.args.by_default c.args.known.now in
    let q = ap (count_stmt fs) (for_shown c.args.s.now c.in-For.first c.in-For.test c.in-For.step c.in-For.body c.in-For.line c.in-For.is) in
    let d = ap (λ xs. count_stmts fs (T.stmts (map tstmt_of xs))) c.as_slice-in-For.ensures in
    let w = ap (fold_stmt weighing []) (for_shown c.args.s.now c.in-For.first c.in-For.test c.in-For.step c.in-For.body c.in-For.line c.in-For.is) in
    let v = ap (λ xs. fold_stmts weighing [] (T.stmts (map tstmt_of xs))) c.as_slice-in-For.ensures in
    (omega (arith, c.decreases, w, v), omega (arith, c.requires, q, d, c.place-at-in-For.ensures.next))

pub stmt-condition-requires-in-For : goal.stmt-condition-requires-in-For
stmt-condition-requires-in-For t c =
    let fs = functions c.args.by_default c.args.known.now in
    let q = ap (count_stmt fs) (for_shown c.args.s.now c.in-For.first c.in-For.test c.in-For.step c.in-For.body c.in-For.line c.in-For.is) in
    let d = ap (λ xs. count_stmts fs (T.stmts (map tstmt_of xs))) c.as_slice-in-For.ensures in
    let w = ap (fold_stmt weighing []) (for_shown c.args.s.now c.in-For.first c.in-For.test c.in-For.step c.in-For.body c.in-For.line c.in-For.is) in
    (omega (arith, c.decreases, w), omega (arith, c.requires, q, d, c.place-at-in-For.ensures.next, c.in_ok-first-in-For.ensures.next))

pub stmt-branch-deref-requires-in-For : goal.stmt-branch-deref-requires-in-For
stmt-branch-deref-requires-in-For t c =
    let fs = functions c.args.by_default c.args.known.now in
    let q = ap (count_stmt fs) (for_shown c.args.s.now c.in-For.first c.in-For.test c.in-For.step c.in-For.body c.in-For.line c.in-For.is) in
    let d = ap (λ xs. count_stmts fs (T.stmts (map tstmt_of xs))) c.as_slice-in-For.ensures in
    let f = ap (λ xs. count_stmts fs (T.stmts (map tstmt_of xs))) c.as_slice-in-For-2.ensures in
    let b = ap (λ s. count_stmt fs (tstmt_of s)) c.deref-in-For.ensures in
    let w = ap (fold_stmt weighing []) (for_shown c.args.s.now c.in-For.first c.in-For.test c.in-For.step c.in-For.body c.in-For.line c.in-For.is) in
    let v = ap (λ s. fold_stmt weighing [] (tstmt_of s)) c.deref-in-For.ensures in
    (omega (arith, c.decreases, w, v), omega (arith, c.requires, q, d, f, b, c.place-at-in-For.ensures.next, c.in_ok-first-in-For.ensures.next, c.in_ok-test-in-For.ensures.next, c.in_ok-step-in-For.ensures.next))

pub stmt-returns-in_ok-body-in-For-clause-tree : goal.stmt-returns-in_ok-body-in-For-clause-tree
stmt-returns-in_ok-body-in-For-clause-tree t c =
    let fs = functions c.args.by_default c.args.known.now in
    let a = ap (λ xs. T.steps (T.stmts (map tstmt_of xs)) (typed_of c.in-For.test) (T.stmts (map tstmt_of c.as_slice-in-For-2.result.now)) (tstmt_of c.deref-in-For.result.now) c.in-For.line) c.as_slice-in-For.ensures in
    let b = ap (λ xs. T.steps (T.stmts (map tstmt_of c.in-For.first)) (typed_of c.in-For.test) (T.stmts (map tstmt_of xs)) (tstmt_of c.deref-in-For.result.now) c.in-For.line) c.as_slice-in-For-2.ensures in
    let d = ap (λ s. T.steps (T.stmts (map tstmt_of c.in-For.first)) (typed_of c.in-For.test) (T.stmts (map tstmt_of c.in-For.step)) (tstmt_of s) c.in-For.line) c.deref-in-For.ensures in
    let q = for_shown c.args.s.now c.in-For.first c.in-For.test c.in-For.step c.in-For.body c.in-For.line c.in-For.is in
    c.for_node.ensures
    ∙ for_tree fs c.args.next.now _ _ _ _ c.in-For.line _ _ _ _ _ _ _ _ _ c.place-at-in-For.ensures.place c.place-at-in-For.ensures.next
    c.in_ok-first-in-For.ensures.tree c.in_ok-first-in-For.ensures.next c.in_ok-test-in-For.ensures.tree c.in_ok-test-in-For.ensures.next
    c.in_ok-step-in-For.ensures.tree c.in_ok-step-in-For.ensures.next c.in_ok-body-in-For.ensures.tree
    ∙ ap (inline_stmt fs c.args.next.now) (a ∙ b ∙ d ∙ sym q)

pub stmts-stmt-requires : goal.stmts-stmt-requires
stmts-stmt-requires t c =
    let fs = functions c.args.by_default c.args.known.now in
    let s = ap (count_stmts fs) (stmts_split c.args.body.now c.loop-s.s-index c.s-item.result (omega arith) c.s-item.is) in
    let l = light_stmt c.args.body.now c.loop-s.s-index c.s-item.result (omega arith) c.s-item.is in
    (omega (arith, c.decreases, l), omega (arith, c.requires, s, c.loop-s.invariant.next))

pub stmts-loop-s-preserved : goal.stmts-loop-s-preserved
stmts-loop-s-preserved t c =
    let fs = functions c.args.by_default c.args.known.now in
    let s = ap (count_stmts fs) (stmts_split c.args.body.now c.loop-s.s-index c.s-item.result (omega arith) c.s-item.is) in
    record {
      tree = stmts_step fs c.loop-s.made.items _ c.in_ok-one.one c.args.body.now c.loop-s.s-index c.s-item.result c.loop-s.next c.stmt.new.next (omega arith) c.s-item.is
          c.in_ok-push.ensures.items c.in_ok-one.ensures.tree c.in_ok-one.ensures.next ∙ c.loop-s.invariant.tree;
      next = omega (arith, s, c.loop-s.invariant.next, c.in_ok-one.ensures.next);
    }

pub stmts-returns-clause-tree : goal.stmts-returns-clause-tree
stmts-returns-clause-tree t c =
    let fs = functions c.args.by_default c.args.known.now in
    let made = map tree_stmt c.loop-s.made.items in
    sym (stmts_alone made) ∙ sym (ap (λ z. stmts_before made (inline_stmts fs c.loop-s.next z)) (stmts_end c.args.body.now c.loop-s.s-index (omega arith))) ∙ c.loop-s.invariant.tree

pub stmt-returns-in-Empty-clause-tree : goal.stmt-returns-in-Empty-clause-tree
stmt-returns-in-Empty-clause-tree t c =
    let fs = functions c.args.by_default c.args.known.now in
    let n = c.args.next.now in
    ap (λ p. A.empty p) c.place.ensures.place ∙ sym (ap (λ s. inline_stmt fs n (tstmt_of s)) c.in-Empty.is)

pub stmt-returns-in-Empty-clause-next : goal.stmt-returns-in-Empty-clause-next
stmt-returns-in-Empty-clause-next t c =
    let fs = functions c.args.by_default c.args.known.now in
    let n = c.args.next.now in
    c.place.ensures.next ∙ sym (ap (λ s. n + count_stmt fs (tstmt_of s)) c.in-Empty.is)

pub stmt-returns-in-Break-clause-tree : goal.stmt-returns-in-Break-clause-tree
stmt-returns-in-Break-clause-tree t c =
    let fs = functions c.args.by_default c.args.known.now in
    let n = c.args.next.now in
    ap (λ p. A.leave p) c.place-in-Break.ensures.place ∙ sym (ap (λ s. inline_stmt fs n (tstmt_of s)) c.in-Break.is)

pub stmt-returns-in-Break-clause-next : goal.stmt-returns-in-Break-clause-next
stmt-returns-in-Break-clause-next t c =
    let fs = functions c.args.by_default c.args.known.now in
    let n = c.args.next.now in
    c.place-in-Break.ensures.next ∙ sym (ap (λ s. n + count_stmt fs (tstmt_of s)) c.in-Break.is)

pub stmt-returns-in-Continue-clause-tree : goal.stmt-returns-in-Continue-clause-tree
stmt-returns-in-Continue-clause-tree t c =
    let fs = functions c.args.by_default c.args.known.now in
    let n = c.args.next.now in
    ap (λ p. A.again p) c.place-in-Continue.ensures.place ∙ sym (ap (λ s. inline_stmt fs n (tstmt_of s)) c.in-Continue.is)

pub stmt-returns-in-Continue-clause-next : goal.stmt-returns-in-Continue-clause-next
stmt-returns-in-Continue-clause-next t c =
    let fs = functions c.args.by_default c.args.known.now in
    let n = c.args.next.now in
    c.place-in-Continue.ensures.next ∙ sym (ap (λ s. n + count_stmt fs (tstmt_of s)) c.in-Continue.is)

pub stmt-returns-in-Start-clause-tree : goal.stmt-returns-in-Start-clause-tree
stmt-returns-in-Start-clause-tree t c =
    let fs = functions c.args.by_default c.args.known.now in
    let n = c.args.next.now in
    ap (λ p. A.start c.in-Start.uniform c.in-Start.kind p) c.place-in-Start.ensures.place ∙ sym (ap (λ s. inline_stmt fs n (tstmt_of s)) c.in-Start.is)

pub stmt-returns-in-Start-clause-next : goal.stmt-returns-in-Start-clause-next
stmt-returns-in-Start-clause-next t c =
    let fs = functions c.args.by_default c.args.known.now in
    let n = c.args.next.now in
    c.place-in-Start.ensures.next ∙ sym (ap (λ s. n + count_stmt fs (tstmt_of s)) c.in-Start.is)

pub stmt-returns-in_ok-body-in-Block-clause-tree : goal.stmt-returns-in_ok-body-in-Block-clause-tree
stmt-returns-in_ok-body-in-Block-clause-tree t c =
    let fs = functions c.args.by_default c.args.known.now in
    let n = c.args.next.now in
    c.block_node.ensures ∙ block_tree fs n _ c.in-Block.line _ _ _ c.place-at.ensures.place c.place-at.ensures.next c.in_ok-body-in-Block.ensures.tree
    ∙ ap (λ xs. inline_stmt fs n (T.block (T.stmts (map tstmt_of xs)) c.in-Block.line)) c.as_slice.ensures ∙ ap (inline_stmt fs n) (sym (block_shown c.args.s.now c.in-Block.body c.in-Block.line c.in-Block.is))

pub stmt-returns-in_ok-body-in-Block-clause-next : goal.stmt-returns-in_ok-body-in-Block-clause-next
stmt-returns-in_ok-body-in-Block-clause-next t c =
    let fs = functions c.args.by_default c.args.known.now in
    let n = c.args.next.now in
    after_one n _ _ _ c.place-at.ensures.next c.in_ok-body-in-Block.ensures.next
    ∙ ap (λ xs. n + count_stmt fs (T.block (T.stmts (map tstmt_of xs)) c.in-Block.line)) c.as_slice.ensures ∙ ap (λ s. n + count_stmt fs s) (sym (block_shown c.args.s.now c.in-Block.body c.in-Block.line c.in-Block.is))

pub stmt-returns-in_ok-body-in-Group-clause-tree : goal.stmt-returns-in_ok-body-in-Group-clause-tree
stmt-returns-in_ok-body-in-Group-clause-tree t c =
    let fs = functions c.args.by_default c.args.known.now in
    let n = c.args.next.now in
    c.group_node.ensures ∙ ap (λ x. A.group x) (c.in_ok-body-in-Group.ensures.tree ∙ ap (λ xs. inline_stmts fs n (T.stmts (map tstmt_of xs))) c.as_slice-in-Group.ensures)
    ∙ ap (inline_stmt fs n) (sym (group_shown c.args.s.now c.in-Group.body c.in-Group.is))

pub stmt-returns-in_ok-body-in-Group-clause-next : goal.stmt-returns-in_ok-body-in-Group-clause-next
stmt-returns-in_ok-body-in-Group-clause-next t c =
    let fs = functions c.args.by_default c.args.known.now in
    let n = c.args.next.now in
    c.in_ok-body-in-Group.ensures.next ∙ ap (λ xs. n + count_stmts fs (T.stmts (map tstmt_of xs))) c.as_slice-in-Group.ensures
    ∙ ap (λ s. n + count_stmt fs s) (sym (group_shown c.args.s.now c.in-Group.body c.in-Group.is))

pub stmt-returns-in_ok-value-in-Declare-clause-tree : goal.stmt-returns-in_ok-value-in-Declare-clause-tree
stmt-returns-in_ok-value-in-Declare-clause-tree t c =
    let fs = functions c.args.by_default c.args.known.now in
    let n = c.args.next.now in
    c.declare_node.ensures
    ∙ declare_tree fs n _ c.in-Declare.line c.in-Declare.uniform c.in-Declare.kind _ _ _ c.place-at-in-Declare.ensures.place c.place-at-in-Declare.ensures.next c.in_ok-value-in-Declare.ensures.tree
    ∙ sym (ap (λ s. inline_stmt fs n (tstmt_of s)) c.in-Declare.is)

pub stmt-returns-in_ok-value-in-Declare-clause-next : goal.stmt-returns-in_ok-value-in-Declare-clause-next
stmt-returns-in_ok-value-in-Declare-clause-next t c =
    let fs = functions c.args.by_default c.args.known.now in
    let n = c.args.next.now in
    after_one n _ _ _ c.place-at-in-Declare.ensures.next c.in_ok-value-in-Declare.ensures.next ∙ sym (ap (λ s. n + count_stmt fs (tstmt_of s)) c.in-Declare.is)

pub stmt-returns-in_ok-value-in-Set-clause-tree : goal.stmt-returns-in_ok-value-in-Set-clause-tree
stmt-returns-in_ok-value-in-Set-clause-tree t c =
    let fs = functions c.args.by_default c.args.known.now in
    let n = c.args.next.now in
    c.set_node.ensures
    ∙ set_tree fs n _ c.in-Set.line c.in-Set.variable c.in-Set.operator c.in-Set.kind _ _ _ c.place-at-in-Set.ensures.place c.place-at-in-Set.ensures.next c.in_ok-value-in-Set.ensures.tree
    ∙ sym (ap (λ s. inline_stmt fs n (tstmt_of s)) c.in-Set.is)

pub stmt-returns-in_ok-value-in-Set-clause-next : goal.stmt-returns-in_ok-value-in-Set-clause-next
stmt-returns-in_ok-value-in-Set-clause-next t c =
    let fs = functions c.args.by_default c.args.known.now in
    let n = c.args.next.now in
    after_one n _ _ _ c.place-at-in-Set.ensures.next c.in_ok-value-in-Set.ensures.next ∙ sym (ap (λ s. n + count_stmt fs (tstmt_of s)) c.in-Set.is)

pub stmt-returns-in_ok-then-in-If-clause-tree : goal.stmt-returns-in_ok-then-in-If-clause-tree
stmt-returns-in_ok-then-in-If-clause-tree t c =
    let fs = functions c.args.by_default c.args.known.now in
    let n = c.args.next.now in
    c.if_node.ensures
    ∙ test_tree fs n _ _ c.in-If.line _ _ _ _ _ c.place-at-in-If.ensures.place c.place-at-in-If.ensures.next c.in_ok-test-in-If.ensures.tree c.in_ok-test-in-If.ensures.next
    c.in_ok-then-in-If.ensures.tree
    ∙ ap (λ s. inline_stmt fs n (T.test (typed_of c.in-If.test) (tstmt_of s) c.in-If.line)) c.deref.ensures ∙ sym (ap (λ s. inline_stmt fs n (tstmt_of s)) c.in-If.is)

pub stmt-returns-in_ok-then-in-If-clause-next : goal.stmt-returns-in_ok-then-in-If-clause-next
stmt-returns-in_ok-then-in-If-clause-next t c =
    let fs = functions c.args.by_default c.args.known.now in
    let n = c.args.next.now in
    after_two n _ _ _ _ _ c.place-at-in-If.ensures.next c.in_ok-test-in-If.ensures.next c.in_ok-then-in-If.ensures.next
    ∙ ap (λ s. n + count_stmt fs (T.test (typed_of c.in-If.test) (tstmt_of s) c.in-If.line)) c.deref.ensures ∙ sym (ap (λ s. n + count_stmt fs (tstmt_of s)) c.in-If.is)

pub stmt-returns-in_ok-body-in-While-clause-tree : goal.stmt-returns-in_ok-body-in-While-clause-tree
stmt-returns-in_ok-body-in-While-clause-tree t c =
    let fs = functions c.args.by_default c.args.known.now in
    let n = c.args.next.now in
    c.while_node.ensures
    ∙ repeat_tree fs n _ _ c.in-While.line _ _ _ _ _ c.place-at-in-While.ensures.place c.place-at-in-While.ensures.next c.in_ok-test-in-While.ensures.tree c.in_ok-test-in-While.ensures.next
    c.in_ok-body-in-While.ensures.tree
    ∙ ap (λ s. inline_stmt fs n (T.repeat (typed_of c.in-While.test) (tstmt_of s) c.in-While.line)) c.deref-in-While.ensures ∙ sym (ap (λ s. inline_stmt fs n (tstmt_of s)) c.in-While.is)

pub stmt-returns-in_ok-body-in-While-clause-next : goal.stmt-returns-in_ok-body-in-While-clause-next
stmt-returns-in_ok-body-in-While-clause-next t c =
    let fs = functions c.args.by_default c.args.known.now in
    let n = c.args.next.now in
    after_two n _ _ _ _ _ c.place-at-in-While.ensures.next c.in_ok-test-in-While.ensures.next c.in_ok-body-in-While.ensures.next
    ∙ ap (λ s. n + count_stmt fs (T.repeat (typed_of c.in-While.test) (tstmt_of s) c.in-While.line)) c.deref-in-While.ensures ∙ sym (ap (λ s. n + count_stmt fs (tstmt_of s)) c.in-While.is)

pub stmt-returns-in_ok-otherwise-in-IfElse-clause-tree : goal.stmt-returns-in_ok-otherwise-in-IfElse-clause-tree
stmt-returns-in_ok-otherwise-in-IfElse-clause-tree t c =
    let fs = functions c.args.by_default c.args.known.now in
    let n = c.args.next.now in
    c.if_else_node.ensures
    ∙ else_tree fs n _ _ _ c.in-IfElse.line _ _ _ _ _ _ _ c.place-at-in-IfElse.ensures.place c.place-at-in-IfElse.ensures.next c.in_ok-test-in-IfElse.ensures.tree c.in_ok-test-in-IfElse.ensures.next
    c.in_ok-then-in-IfElse.ensures.tree c.in_ok-then-in-IfElse.ensures.next c.in_ok-otherwise-in-IfElse.ensures.tree
    ∙ ap₂ (λ s r. inline_stmt fs n (T.test_else (typed_of c.in-IfElse.test) (tstmt_of s) (tstmt_of r) c.in-IfElse.line)) c.deref-in-IfElse.ensures c.deref-in-IfElse-2.ensures ∙ sym (ap (λ s. inline_stmt fs n (tstmt_of s)) c.in-IfElse.is)

pub stmt-returns-in_ok-otherwise-in-IfElse-clause-next : goal.stmt-returns-in_ok-otherwise-in-IfElse-clause-next
stmt-returns-in_ok-otherwise-in-IfElse-clause-next t c =
    let fs = functions c.args.by_default c.args.known.now in
    let n = c.args.next.now in
    after_three n _ _ _ _ _ _ _ c.place-at-in-IfElse.ensures.next c.in_ok-test-in-IfElse.ensures.next c.in_ok-then-in-IfElse.ensures.next c.in_ok-otherwise-in-IfElse.ensures.next
    ∙ ap₂ (λ s r. n + count_stmt fs (T.test_else (typed_of c.in-IfElse.test) (tstmt_of s) (tstmt_of r) c.in-IfElse.line)) c.deref-in-IfElse.ensures c.deref-in-IfElse-2.ensures ∙ sym (ap (λ s. n + count_stmt fs (tstmt_of s)) c.in-IfElse.is)

pub stmt-returns-in_ok-body-in-Lights-clause-tree : goal.stmt-returns-in_ok-body-in-Lights-clause-tree
stmt-returns-in_ok-body-in-Lights-clause-tree t c =
    let fs = functions c.args.by_default c.args.known.now in
    let n = c.args.next.now in
    c.lights_node.ensures
    ∙ lights_tree fs n _ _ c.in-Lights.line c.in-Lights.word _ _ _ _ _ c.place-at-in-Lights.ensures.place c.place-at-in-Lights.ensures.next c.in_ok-args-in-Lights.ensures.tree c.in_ok-args-in-Lights.ensures.next
    c.in_ok-body-in-Lights.ensures.tree
    ∙ ap₂ (λ xs s. inline_stmt fs n (T.lights c.in-Lights.word (T.exprs (map typed_of xs)) (tstmt_of s) c.in-Lights.line)) c.as_slice-in-Lights.ensures c.deref-in-Lights.ensures ∙ sym (ap (λ s. inline_stmt fs n (tstmt_of s)) c.in-Lights.is)

pub stmt-returns-in_ok-body-in-Lights-clause-next : goal.stmt-returns-in_ok-body-in-Lights-clause-next
stmt-returns-in_ok-body-in-Lights-clause-next t c =
    let fs = functions c.args.by_default c.args.known.now in
    let n = c.args.next.now in
    after_two n _ _ _ _ _ c.place-at-in-Lights.ensures.next c.in_ok-args-in-Lights.ensures.next c.in_ok-body-in-Lights.ensures.next
    ∙ ap₂ (λ xs s. n + count_stmt fs (T.lights c.in-Lights.word (T.exprs (map typed_of xs)) (tstmt_of s) c.in-Lights.line)) c.as_slice-in-Lights.ensures c.deref-in-Lights.ensures ∙ sym (ap (λ s. n + count_stmt fs (tstmt_of s)) c.in-Lights.is)

pub stmt-returns-in_ok-body-in-For-clause-next : goal.stmt-returns-in_ok-body-in-For-clause-next
stmt-returns-in_ok-body-in-For-clause-next t c =
    let fs = functions c.args.by_default c.args.known.now in
    let n = c.args.next.now in
    let steps : List TypedStmt → List TypedStmt → TypedStmt → T.Stmt = λ xs ys s. T.steps (T.stmts (map tstmt_of xs)) (typed_of c.in-For.test) (T.stmts (map tstmt_of ys)) (tstmt_of s) c.in-For.line in
    after_four n _ _ _ _ _ _ _ _ _ c.place-at-in-For.ensures.next c.in_ok-first-in-For.ensures.next c.in_ok-test-in-For.ensures.next c.in_ok-step-in-For.ensures.next c.in_ok-body-in-For.ensures.next
    ∙ ap (λ xs. n + count_stmt fs (steps xs c.as_slice-in-For-2.result.now c.deref-in-For.result.now)) c.as_slice-in-For.ensures
    ∙ ap₂ (λ ys s. n + count_stmt fs (steps c.in-For.first ys s)) c.as_slice-in-For-2.ensures c.deref-in-For.ensures
    ∙ ap (λ s. n + count_stmt fs s) (sym (for_shown c.args.s.now c.in-For.first c.in-For.test c.in-For.step c.in-For.body c.in-For.line c.in-For.is))

pub condition-expr-requires : goal.condition-expr-requires
condition-expr-requires t c =
    (omega (arith, c.decreases), c.requires)

pub branch-stmt-requires : goal.branch-stmt-requires
branch-stmt-requires t c =
    (omega (arith, c.decreases), c.requires)

pub expr-exprs-requires : goal.expr-exprs-requires
expr-exprs-requires t c =
    let fs = functions c.args.by_default c.args.known.now in
    let shown = apply_shown c.args.e.now c.in-Apply.operation c.in-Apply.args c.in-Apply.kind c.in-Apply.line c.in-Apply.is
    ∙ sym (ap (λ xs. T.apply c.in-Apply.operation (T.exprs (map typed_of xs)) c.in-Apply.kind c.in-Apply.line) c.as_slice.ensures) in
    (omega (arith, c.decreases, ap (fold weighing []) shown), omega (arith, c.requires, ap (count fs) shown, c.place-at.ensures.next))

pub expr-exprs-requires-in-Call : goal.expr-exprs-requires-in-Call
expr-exprs-requires-in-Call t c =
    let fs = functions c.args.by_default c.args.known.now in
    let shown = call_shown c.args.e.now c.in-Call.function c.in-Call.args c.in-Call.kind c.in-Call.line c.in-Call.is
    ∙ sym (ap (λ xs. T.call c.in-Call.function (T.exprs (map typed_of xs)) c.in-Call.kind c.in-Call.line) c.as_slice-in-Call.ensures) in
    (omega (arith, c.decreases, ap (fold weighing []) shown), omega (arith, c.requires, ap (count fs) shown, c.place-at-in-Call.ensures.next))

pub stmt-stmts-requires : goal.stmt-stmts-requires
stmt-stmts-requires t c =
    let fs = functions c.args.by_default c.args.known.now in
    let shown = block_shown c.args.s.now c.in-Block.body c.in-Block.line c.in-Block.is ∙ sym (ap (λ xs. T.block (T.stmts (map tstmt_of xs)) c.in-Block.line) c.as_slice.ensures) in
    (omega (arith, c.decreases, ap (fold_stmt weighing []) shown), omega (arith, c.requires, ap (count_stmt fs) shown, c.place-at.ensures.next))

pub stmt-stmts-requires-in-Group : goal.stmt-stmts-requires-in-Group
stmt-stmts-requires-in-Group t c =
    let fs = functions c.args.by_default c.args.known.now in
    let shown = group_shown c.args.s.now c.in-Group.body c.in-Group.is ∙ sym (ap (λ xs. T.group (T.stmts (map tstmt_of xs))) c.as_slice-in-Group.ensures) in
    (omega (arith, c.decreases, ap (fold_stmt weighing []) shown), omega (arith, c.requires, ap (count_stmt fs) shown))

pub stmt-expr-requires : goal.stmt-expr-requires
stmt-expr-requires t c =
    let fs = functions c.args.by_default c.args.known.now in
    (omega (arith, c.decreases, ap weighed c.in-Declare.is), omega (arith, c.requires, ap (counted fs) c.in-Declare.is, c.place-at-in-Declare.ensures.next))

pub stmt-expr-requires-in-Set : goal.stmt-expr-requires-in-Set
stmt-expr-requires-in-Set t c =
    let fs = functions c.args.by_default c.args.known.now in
    (omega (arith, c.decreases, ap weighed c.in-Set.is), omega (arith, c.requires, ap (counted fs) c.in-Set.is, c.place-at-in-Set.ensures.next))

pub stmt-condition-requires : goal.stmt-condition-requires
stmt-condition-requires t c =
    let fs = functions c.args.by_default c.args.known.now in
    (omega (arith, c.decreases, ap weighed c.in-If.is), omega (arith, c.requires, ap (counted fs) c.in-If.is, c.place-at-in-If.ensures.next))

pub stmt-branch-deref-requires : goal.stmt-branch-deref-requires
stmt-branch-deref-requires t c =
    let fs = functions c.args.by_default c.args.known.now in
    (omega (arith, c.decreases, ap weighed c.in-If.is, ap weighed c.deref.ensures), omega (arith, c.requires, ap (counted fs) c.in-If.is, ap (counted fs) c.deref.ensures, c.place-at-in-If.ensures.next, c.in_ok-test-in-If.ensures.next))

pub stmt-condition-requires-in-IfElse : goal.stmt-condition-requires-in-IfElse
stmt-condition-requires-in-IfElse t c =
    let fs = functions c.args.by_default c.args.known.now in
    (omega (arith, c.decreases, ap weighed c.in-IfElse.is), omega (arith, c.requires, ap (counted fs) c.in-IfElse.is, c.place-at-in-IfElse.ensures.next))

pub stmt-branch-deref-requires-in-IfElse : goal.stmt-branch-deref-requires-in-IfElse
stmt-branch-deref-requires-in-IfElse t c =
    let fs = functions c.args.by_default c.args.known.now in
    (omega (arith, c.decreases, ap weighed c.in-IfElse.is, ap weighed c.deref-in-IfElse.ensures), omega (arith, c.requires, ap (counted fs) c.in-IfElse.is, ap (counted fs) c.deref-in-IfElse.ensures, c.place-at-in-IfElse.ensures.next, c.in_ok-test-in-IfElse.ensures.next))

pub stmt-branch-deref-requires-in-IfElse-2 : goal.stmt-branch-deref-requires-in-IfElse-2
stmt-branch-deref-requires-in-IfElse-2 t c =
    let fs = functions c.args.by_default c.args.known.now in
    (omega (arith, c.decreases, ap weighed c.in-IfElse.is, ap weighed c.deref-in-IfElse-2.ensures), omega (arith, c.requires, ap (counted fs) c.in-IfElse.is, ap (counted fs) c.deref-in-IfElse.ensures, ap (counted fs) c.deref-in-IfElse-2.ensures, c.place-at-in-IfElse.ensures.next, c.in_ok-test-in-IfElse.ensures.next, c.in_ok-then-in-IfElse.ensures.next))

pub stmt-condition-requires-in-While : goal.stmt-condition-requires-in-While
stmt-condition-requires-in-While t c =
    let fs = functions c.args.by_default c.args.known.now in
    (omega (arith, c.decreases, ap weighed c.in-While.is), omega (arith, c.requires, ap (counted fs) c.in-While.is, c.place-at-in-While.ensures.next))

pub stmt-branch-deref-requires-in-While : goal.stmt-branch-deref-requires-in-While
stmt-branch-deref-requires-in-While t c =
    let fs = functions c.args.by_default c.args.known.now in
    (omega (arith, c.decreases, ap weighed c.in-While.is, ap weighed c.deref-in-While.ensures), omega (arith, c.requires, ap (counted fs) c.in-While.is, ap (counted fs) c.deref-in-While.ensures, c.place-at-in-While.ensures.next, c.in_ok-test-in-While.ensures.next))

pub stmt-exprs-requires : goal.stmt-exprs-requires
stmt-exprs-requires t c =
    let fs = functions c.args.by_default c.args.known.now in
    let d = ap (λ xs. count_args fs (T.exprs (map typed_of xs))) c.as_slice-in-Lights.ensures in
    let v = ap (λ xs. fold_args weighing [] (T.exprs (map typed_of xs))) c.as_slice-in-Lights.ensures in
    (omega (arith, c.decreases, ap weighed c.in-Lights.is, v), omega (arith, c.requires, ap (counted fs) c.in-Lights.is, d, c.place-at-in-Lights.ensures.next))

pub stmt-branch-deref-requires-in-Lights : goal.stmt-branch-deref-requires-in-Lights
stmt-branch-deref-requires-in-Lights t c =
    let fs = functions c.args.by_default c.args.known.now in
    let d = ap (λ xs. count_args fs (T.exprs (map typed_of xs))) c.as_slice-in-Lights.ensures in
    (omega (arith, c.decreases, ap weighed c.in-Lights.is, ap weighed c.deref-in-Lights.ensures), omega (arith, c.requires, ap (counted fs) c.in-Lights.is, d, ap (counted fs) c.deref-in-Lights.ensures, c.place-at-in-Lights.ensures.next, c.in_ok-args-in-Lights.ensures.next))

pub stmt-stmts-requires-in-For-2 : goal.stmt-stmts-requires-in-For-2
stmt-stmts-requires-in-For-2 t c =
    let fs = functions c.args.by_default c.args.known.now in
    let shown = for_shown c.args.s.now c.in-For.first c.in-For.test c.in-For.step c.in-For.body c.in-For.line c.in-For.is in
    let d = ap (λ xs. count_stmts fs (T.stmts (map tstmt_of xs))) c.as_slice-in-For.ensures in
    let f = ap (λ xs. count_stmts fs (T.stmts (map tstmt_of xs))) c.as_slice-in-For-2.ensures in
    let v = ap (λ xs. fold_stmts weighing [] (T.stmts (map tstmt_of xs))) c.as_slice-in-For-2.ensures in
    (omega (arith, c.decreases, ap (fold_stmt weighing []) shown, v), omega (arith, c.requires, ap (count_stmt fs) shown, d, f, c.place-at-in-For.ensures.next, c.in_ok-first-in-For.ensures.next, c.in_ok-test-in-For.ensures.next))

pub stmts-returns-clause-next : goal.stmts-returns-clause-next
stmts-returns-clause-next t c =
    let fs = functions c.args.by_default c.args.known.now in
    omega (arith, c.loop-s.invariant.next, ap (count_stmts fs) (stmts_end c.args.body.now c.loop-s.s-index c.loop-s-test.false))

pub exprs-returns-clause-next : goal.exprs-returns-clause-next
exprs-returns-clause-next t c =
    let fs = functions c.args.by_default c.args.known.now in
    omega (arith, c.loop-e.invariant.next, ap (count_args fs) (args_end c.args.es.now c.loop-e.e-index c.loop-e-test.false))

pub expr-returns-in_ok-args-in-Apply-clause-tree : goal.expr-returns-in_ok-args-in-Apply-clause-tree
expr-returns-in_ok-args-in-Apply-clause-tree t c =
    let fs = functions c.args.by_default c.args.known.now in
    let n = c.args.next.now in
    c.apply_node.ensures ∙ apply_tree fs n _ c.in-Apply.line c.in-Apply.operation c.in-Apply.kind _ _ _ c.place-at.ensures.place c.place-at.ensures.next c.in_ok-args-in-Apply.ensures.tree
    ∙ ap (λ xs. inline fs n (T.apply c.in-Apply.operation (T.exprs (map typed_of xs)) c.in-Apply.kind c.in-Apply.line)) c.as_slice.ensures ∙ ap (inline fs n) (sym (apply_shown c.args.e.now c.in-Apply.operation c.in-Apply.args c.in-Apply.kind c.in-Apply.line c.in-Apply.is))

pub expr-returns-in_ok-args-in-Apply-clause-next : goal.expr-returns-in_ok-args-in-Apply-clause-next
expr-returns-in_ok-args-in-Apply-clause-next t c =
    let fs = functions c.args.by_default c.args.known.now in
    let n = c.args.next.now in
    after_one n _ _ _ c.place-at.ensures.next c.in_ok-args-in-Apply.ensures.next
    ∙ ap (λ xs. n + count fs (T.apply c.in-Apply.operation (T.exprs (map typed_of xs)) c.in-Apply.kind c.in-Apply.line)) c.as_slice.ensures ∙ ap (λ x. n + count fs x) (sym (apply_shown c.args.e.now c.in-Apply.operation c.in-Apply.args c.in-Apply.kind c.in-Apply.line c.in-Apply.is))

pub expr-returns-in-Number-clause-tree : goal.expr-returns-in-Number-clause-tree
expr-returns-in-Number-clause-tree t c =
    let fs = functions c.args.by_default c.args.known.now in
    let n = c.args.next.now in
    ap (λ p. A.number c.in-Number.value p) c.place.ensures.place ∙ sym (ap (λ e. inline fs n (typed_of e)) c.in-Number.is)

pub expr-returns-in-Number-clause-next : goal.expr-returns-in-Number-clause-next
expr-returns-in-Number-clause-next t c =
    let fs = functions c.args.by_default c.args.known.now in
    let n = c.args.next.now in
    c.place.ensures.next ∙ sym (ap (λ e. n + count fs (typed_of e)) c.in-Number.is)

pub expr-returns-in-Variable-clause-tree : goal.expr-returns-in-Variable-clause-tree
expr-returns-in-Variable-clause-tree t c =
    let fs = functions c.args.by_default c.args.known.now in
    let n = c.args.next.now in
    ap (λ p. A.variable c.in-Variable.variable c.in-Variable.kind p) c.place-in-Variable.ensures.place ∙ sym (ap (λ e. inline fs n (typed_of e)) c.in-Variable.is)

pub expr-returns-in-Variable-clause-next : goal.expr-returns-in-Variable-clause-next
expr-returns-in-Variable-clause-next t c =
    let fs = functions c.args.by_default c.args.known.now in
    let n = c.args.next.now in
    c.place-in-Variable.ensures.next ∙ sym (ap (λ e. n + count fs (typed_of e)) c.in-Variable.is)

pub expr-place-requires : goal.expr-place-requires
expr-place-requires t c =
    let fs = functions c.args.by_default c.args.known.now in
    omega (arith, c.requires, ap (counted_expr fs) c.in-Number.is)

pub expr-place-requires-in-Word : goal.expr-place-requires-in-Word
expr-place-requires-in-Word t c =
    let fs = functions c.args.by_default c.args.known.now in
    omega (arith, c.requires, ap (counted_expr fs) c.in-Word.is)

pub expr-place-requires-in-Variable : goal.expr-place-requires-in-Variable
expr-place-requires-in-Variable t c =
    let fs = functions c.args.by_default c.args.known.now in
    omega (arith, c.requires, ap (counted_expr fs) c.in-Variable.is)

pub stmt-place-requires : goal.stmt-place-requires
stmt-place-requires t c =
    let fs = functions c.args.by_default c.args.known.now in
    omega (arith, c.requires, ap (counted fs) c.in-Empty.is)

pub stmt-place-requires-in-Break : goal.stmt-place-requires-in-Break
stmt-place-requires-in-Break t c =
    let fs = functions c.args.by_default c.args.known.now in
    omega (arith, c.requires, ap (counted fs) c.in-Break.is)

pub stmt-place-requires-in-Continue : goal.stmt-place-requires-in-Continue
stmt-place-requires-in-Continue t c =
    let fs = functions c.args.by_default c.args.known.now in
    omega (arith, c.requires, ap (counted fs) c.in-Continue.is)

pub stmt-place-requires-in-Start : goal.stmt-place-requires-in-Start
stmt-place-requires-in-Start t c =
    let fs = functions c.args.by_default c.args.known.now in
    omega (arith, c.requires, ap (counted fs) c.in-Start.is)

pub stmt-place-at-requires-in-Declare : goal.stmt-place-at-requires-in-Declare
stmt-place-at-requires-in-Declare t c =
    let fs = functions c.args.by_default c.args.known.now in
    omega (arith, c.requires, ap (counted fs) c.in-Declare.is)

pub stmt-place-at-requires-in-Set : goal.stmt-place-at-requires-in-Set
stmt-place-at-requires-in-Set t c =
    let fs = functions c.args.by_default c.args.known.now in
    omega (arith, c.requires, ap (counted fs) c.in-Set.is)

pub stmt-place-at-requires-in-If : goal.stmt-place-at-requires-in-If
stmt-place-at-requires-in-If t c =
    let fs = functions c.args.by_default c.args.known.now in
    omega (arith, c.requires, ap (counted fs) c.in-If.is)

pub stmt-place-at-requires-in-IfElse : goal.stmt-place-at-requires-in-IfElse
stmt-place-at-requires-in-IfElse t c =
    let fs = functions c.args.by_default c.args.known.now in
    omega (arith, c.requires, ap (counted fs) c.in-IfElse.is)

pub stmt-place-at-requires-in-While : goal.stmt-place-at-requires-in-While
stmt-place-at-requires-in-While t c =
    let fs = functions c.args.by_default c.args.known.now in
    omega (arith, c.requires, ap (counted fs) c.in-While.is)

pub stmt-place-at-requires-in-Lights : goal.stmt-place-at-requires-in-Lights
stmt-place-at-requires-in-Lights t c =
    let fs = functions c.args.by_default c.args.known.now in
    omega (arith, c.requires, ap (counted fs) c.in-Lights.is)

pub stmt-place-at-requires : goal.stmt-place-at-requires
stmt-place-at-requires t c =
    let fs = functions c.args.by_default c.args.known.now in
    omega (arith, c.requires, ap (counted fs) c.in-Block.is)

pub stmt-place-at-requires-in-For : goal.stmt-place-at-requires-in-For
stmt-place-at-requires-in-For t c =
    let fs = functions c.args.by_default c.args.known.now in
    omega (arith, c.requires, ap (counted fs) c.in-For.is)

pub chain-overflow_sub-number : goal.chain-overflow_sub-number
chain-overflow_sub-number t c =
    omega (arith, c.loop-link.invariant.number, at_drop_more (λ xs. length xs) c.args.links.now c.loop-link.link-index c.link-item.result c.loop-link-test.true)
