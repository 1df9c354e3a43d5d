use Rattle.std.proofs.Common.{Bool, List, ◌≡◌, ◌+◌, [], ◌∷◌, ◌++◌, true, false, Ok, rules, drop, map, arith, ap, sym, subst, ◌∙◌}
use Rattle.std.proofs.lemmas.List.{map-append}
use Rattle.sl_ast.specs.Syntax as U
use Rattle.sl_ast.specs.SyntaxView.{expr_of, link_of}
use Rattle.sl_ast.specs.declared.syntax.Expr.{Expr}
use Rattle.sl_expressions.specs.Exprs.{applied, named, prefixed, tripled, is_call_node, converted, typed_expr, typed_args, first_is_other, typed_links, call_of}
use Rattle.sl_expressions.specs.Found.{Found, ◌>>=◌}
use Rattle.sl_expressions.specs.Measures.{size, size_args, size_links}
use Rattle.sl_expressions.specs.Typed as T
use Rattle.sl_expressions.specs.TypedView.{typed_of, tlink_of}
use Rattle.sl_expressions.specs.Views.{Gives, around_of, args_after, chain_of, local_of}
use Rattle.sl_expressions.proofs.After.{arg_fault, args_end, args_step}
use Rattle.sl_expressions.proofs.Chains.{in_steps, link_fault}
use Rattle.sl_expressions.proofs.Choices.{choice_is, three_is}
use Rattle.sl_expressions.proofs.Nodes.{call_is, chain_is, chain_split, chain_end, listed_all, small_arg, small_link}
use Rattle.sl_expressions.proofs.exprs.+exprs.Goals as goal

pub typed_after-expr-requires : goal.typed_after-expr-requires
typed_after-expr-requires t c =
    let small = small_arg c.args.es.now c.loop-e.e-index c.e-item.result (omega arith) c.e-item.is in
    (omega (arith, c.decreases, small), tt)

pub typed_links-expr-operand-requires : goal.typed_links-expr-operand-requires
typed_links-expr-operand-requires t c =
    let small = small_link c.args.links.now c.loop-link.link-index c.link-item.result (omega arith) c.link-item.is in
    (omega (arith, c.decreases, small), tt)

pub expr-typed_links-links-requires : goal.expr-typed_links-links-requires
expr-typed_links-links-requires t c =
    let q = ap size (chain_is c.args.e.now c.in-Chain.row c.in-Chain.first c.in-Chain.links c.in-Chain.is) in
    let d = ap (λ xs. size_links (U.links (map link_of xs))) c.as_slice.ensures in
    (omega (arith, c.decreases, q, d), tt)

pub expr-typed_args-parts-requires : goal.expr-typed_args-parts-requires
expr-typed_args-parts-requires t c =
    let q = ap size (call_is c.args.e.now c.in-Call.name c.in-Call.args c.in-Call.line c.in-Call.is) in
    let d = ap (λ xs. size_args (U.exprs (map expr_of xs))) c.as_slice-in-Call.ensures in
    (omega (arith, c.decreases, q, d), tt)

pub expr-returns-in-Number : goal.expr-returns-in-Number
expr-returns-in-Number t c =
    let g = around_of c.args.g.now in
    let ls = map local_of c.args.scope.now in
    ap (λ e. typed_expr g c.args.after_type ls (expr_of e)) c.in-Number.is ∙ ap (λ x. Ok x) (sym c.number.ensures)

pub expr-returns-in-Str : goal.expr-returns-in-Str
expr-returns-in-Str t c =
    let g = around_of c.args.g.now in
    let ls = map local_of c.args.scope.now in
    subst (λ r. Gives typed_of c.word.result r) (sym (ap (λ e. typed_expr g c.args.after_type ls (expr_of e)) c.in-Str.is)) c.word.ensures

pub expr-returns-in-Name : goal.expr-returns-in-Name
expr-returns-in-Name t c =
    let g = around_of c.args.g.now in
    let ls = map local_of c.args.scope.now in
    subst (λ r. Gives typed_of c.named.result r)
    (sym (ap (λ e. typed_expr g c.args.after_type ls (expr_of e)) c.in-Name.is ∙ ap (named g.at c.in-Name.name c.in-Name.line) (sym c.level.ensures)))
    c.named.ensures

pub expr-returns-in-Paren : goal.expr-returns-in-Paren
expr-returns-in-Paren t c =
    let g = around_of c.args.g.now in
    let ls = map local_of c.args.scope.now in
    subst (λ r. Gives typed_of c.expr.result r)
    (sym (ap (λ e. typed_expr g c.args.after_type ls (expr_of e)) c.in-Paren.is ∙ ap (λ e. typed_expr g false ls (expr_of e)) (sym c.deref.ensures)))
    c.expr.ensures

pub expr-returns-in-Prefixed : goal.expr-returns-in-Prefixed
expr-returns-in-Prefixed t c =
    let g = around_of c.args.g.now in
    let ls = map local_of c.args.scope.now in
    subst (λ r. Gives typed_of c.prefixed.result r)
    (sym (ap (λ e. typed_expr g c.args.after_type ls (expr_of e)) c.in-Prefixed.is
    ∙ ap (λ e. prefixed c.in-Prefixed.operator c.in-Prefixed.line (typed_expr g false ls (expr_of e))) (sym c.deref-in-Prefixed.ensures)))
    (c.prefixed.ensures _ c.expr-operand.ensures)

pub expr-returns-in-Triple : goal.expr-returns-in-Triple
expr-returns-in-Triple t c =
    let g = around_of c.args.g.now in
    let ls = map local_of c.args.scope.now in
    let parts = three_is (typed_expr g false ls) _ _ _ _ _ _ c.deref-in-Triple.ensures c.deref-in-Triple-2.ensures c.deref-in-Triple-3.ensures in
    subst (λ r. Gives typed_of c.tripled.result r)
    (sym (ap (λ e. typed_expr g c.args.after_type ls (expr_of e)) c.in-Triple.is ∙ ap (tripled g.at c.in-Triple.kind c.in-Triple.space c.in-Triple.line) parts))
    (c.tripled.ensures _ (c.three-in-Triple.ensures _ _ _ c.expr-x.ensures c.expr-y.ensures c.expr-z.ensures))

pub expr-returns-in-Typed : goal.expr-returns-in-Typed
expr-returns-in-Typed t c =
    let g = around_of c.args.g.now in
    let ls = map local_of c.args.scope.now in
    let of : Bool → Found T.Expr → Found T.Expr = λ call part. converted g.at c.in-Typed.kind c.in-Typed.space call c.in-Typed.line part in
    let part = typed_expr g true ls (expr_of c.deref-in-Typed.result.now) in
    subst (λ r. Gives typed_of c.converted.result r)
    (sym (ap (λ e. typed_expr g c.args.after_type ls (expr_of e)) c.in-Typed.is
    ∙ ap (λ e. of (is_call_node (expr_of c.in-Typed.value.value)) (typed_expr g true ls (expr_of e))) (sym c.deref-in-Typed.ensures)
    ∙ ap (λ e. of (is_call_node (expr_of e)) part) (sym c.deref-in-Typed-2.ensures)
    ∙ ap (λ call. of call part) (sym c.is_call_node.ensures)))
    (c.converted.ensures part c.expr-part.ensures)

pub expr-returns-in_ok-first-in-Chain : goal.expr-returns-in_ok-first-in-Chain
expr-returns-in_ok-first-in-Chain t c =
    let g = around_of c.args.g.now in
    let ls = map local_of c.args.scope.now in
    let e = typed_of c.in_ok-first-in-Chain.first in
    let q = chain_is c.args.e.now c.in-Chain.row c.in-Chain.first c.in-Chain.links c.in-Chain.is in
    let first : typed_expr g false ls (expr_of c.in-Chain.first.value) ≡ Ok e = ap (λ x. typed_expr g false ls (expr_of x)) (sym c.deref-in-Chain.ensures) ∙ c.in_ok-first-in-Chain.ensures in
    let links = ap (λ xs. typed_links g ls e (U.links (map link_of xs))) (sym c.as_slice.ensures) in
    subst (λ r. Gives typed_of c.chained.result r)
    (sym (ap (typed_expr g c.args.after_type ls) q ∙ ap (λ r. r >>= λ v. typed_links g ls v (U.links (map link_of c.in-Chain.links))) first ∙ links))
    (c.chained.ensures _ c.typed_links-links.ensures)

pub expr-returns-in-Choice : goal.expr-returns-in-Choice
expr-returns-in-Choice t c =
    let g = around_of c.args.g.now in
    let ls = map local_of c.args.scope.now in
    let parts = choice_is c.in-Choice.line (typed_expr g false ls) _ _ _ _ _ _ c.deref-in-Choice.ensures c.deref-in-Choice-2.ensures c.deref-in-Choice-3.ensures in
    subst (λ r. Gives typed_of c.chosen.result r)
    (sym (ap (λ e. typed_expr g c.args.after_type ls (expr_of e)) c.in-Choice.is ∙ parts))
    (c.chosen.ensures _ (c.three.ensures _ _ _ c.expr-test.ensures c.expr-first.ensures c.expr-second.ensures))

pub expr-returns-in-Call : goal.expr-returns-in-Call
expr-returns-in-Call t c =
    let g = around_of c.args.g.now in
    let ls = map local_of c.args.scope.now in
    let q = call_is c.args.e.now c.in-Call.name c.in-Call.args c.in-Call.line c.in-Call.is in
    let node : List U.Expr → List Expr → Found T.Expr =
    λ es xs. call_of g c.args.after_type ls c.in-Call.name c.in-Call.line es (first_is_other g ls (U.exprs (map expr_of xs))) (typed_args g ls (U.exprs (map expr_of xs))) in
    let args = ap (λ xs. map expr_of xs) c.as_slice-in-Call-2.ensures in
    subst (λ r. Gives typed_of c.call_of.result r)
    (sym (ap (typed_expr g c.args.after_type ls) q
    ∙ ap (λ es. node es c.in-Call.args) (listed_all (map expr_of c.in-Call.args) ∙ sym args)
    ∙ ap (node (map expr_of c.as_slice-in-Call-2.result.now)) (sym c.as_slice-in-Call.ensures)))
    (c.call_of.ensures _ _ c.typed_args-parts.ensures)

pub typed_links-returns-in_err-next : goal.typed_links-returns-in_err-next
typed_links-returns-in_err-next t c =
    let g = around_of c.args.g.now in
    let ls = map local_of c.args.scope.now in
    let x = c.link-item.result in
    let e = typed_of c.args.first.now in
    let v = T.chained e (map tlink_of c.loop-link.typed.items) in
    let rest = U.links (map link_of (drop (c.loop-link.link-index + 1) c.args.links.now)) in
    let found = typed_expr g false ls (expr_of x.operand) in
    let split = ap (typed_links g ls v) (chain_split c.args.links.now c.loop-link.link-index x (omega arith) c.link-item.is) in
    let operation = ap (λ o. found >>= λ s. applied o x.line (v ∷ s ∷ []) >>= λ r. typed_links g ls r rest) (sym c.operation_of.ensures) in
    let steps = in_steps found (λ s. applied c.operation_of.result x.line (v ∷ s ∷ [])) (λ r. typed_links g ls r rest) in
    let whole = link_fault (chain_of e) e _ _ _ _ (λ r. typed_links g ls r rest) (sym c.loop-link.invariant.same ∙ split ∙ operation ∙ steps)
    (c.in_err-next.ensures e found c.loop-link.invariant.kind c.expr-operand.ensures) in
    search rules

pub typed_links-loop-link-preserved : goal.typed_links-loop-link-preserved
typed_links-loop-link-preserved t c =
    let g = around_of c.args.g.now in
    let ls = map local_of c.args.scope.now in
    let x = c.link-item.result in
    let e = typed_of c.args.first.now in
    let v = T.chained e (map tlink_of c.loop-link.typed.items) in
    let rest = U.links (map link_of (drop (c.loop-link.link-index + 1) c.args.links.now)) in
    let found = typed_expr g false ls (expr_of x.operand) in
    let split = ap (typed_links g ls v) (chain_split c.args.links.now c.loop-link.link-index x (omega arith) c.link-item.is) in
    let operation = ap (λ o. found >>= λ s. applied o x.line (v ∷ s ∷ []) >>= λ r. typed_links g ls r rest) (sym c.operation_of.ensures) in
    let steps = in_steps found (λ s. applied c.operation_of.result x.line (v ∷ s ∷ [])) (λ r. typed_links g ls r rest) in
    let grown = c.in_ok-next.ensures e found c.loop-link.invariant.kind c.expr-operand.ensures in
    record {
      kind = grown.1;
      same = sym (ap (λ r. r >>= λ r. typed_links g ls r rest) grown.0) ∙ sym steps ∙ sym operation ∙ sym split ∙ c.loop-link.invariant.same;
    }

pub typed_links-returns : goal.typed_links-returns
typed_links-returns t c =
    let g = around_of c.args.g.now in
    let ls = map local_of c.args.scope.now in
    let v = T.chained (typed_of c.args.first.now) (map tlink_of c.loop-link.typed.items) in
    let before = typed_links g ls v (U.links (map link_of (drop c.loop-link.link-index c.args.links.now))) in
    sym {a = before} c.loop-link.invariant.same ∙ ap (typed_links g ls v) (chain_end c.args.links.now c.loop-link.link-index (omega arith))

pub typed_after-returns-in_err-value : goal.typed_after-returns-in_err-value
typed_after-returns-in_err-value t c =
    let g = around_of c.args.g.now in
    let ls = map local_of c.args.scope.now in
    let before = map typed_of c.loop-e.before.items in
    let rest = typed_args g ls (U.exprs (map expr_of (drop (c.loop-e.e-index + 1) c.args.es.now))) in
    let step = args_step g ls before c.args.es.now c.loop-e.e-index c.e-item.result c.loop-e-test.true c.e-item.is in
    let whole = arg_fault _ (typed_expr g false ls (expr_of c.e-item.result)) _ (λ e. args_after (before ++ e ∷ []) rest) (sym c.loop-e.invariant ∙ step) c.in_err-value.ensures in
    search rules

pub typed_after-loop-e-preserved : goal.typed_after-loop-e-preserved
typed_after-loop-e-preserved t c =
    let g = around_of c.args.g.now in
    let ls = map local_of c.args.scope.now in
    let before = map typed_of c.loop-e.before.items in
    let rest = typed_args g ls (U.exprs (map expr_of (drop (c.loop-e.e-index + 1) c.args.es.now))) in
    let step = args_step g ls before c.args.es.now c.loop-e.e-index c.e-item.result c.loop-e-test.true c.e-item.is in
    let grown = ap (map typed_of) c.in_ok-push.ensures.items ∙ map-append typed_of c.loop-e.before.items (c.in_ok-value.value ∷ []) in
    let joined = ap (λ r. r >>= λ e. args_after (before ++ e ∷ []) rest) c.in_ok-value.ensures in
    ap (λ es. args_after es rest) grown ∙ sym joined ∙ sym step ∙ c.loop-e.invariant

pub typed_after-returns : goal.typed_after-returns
typed_after-returns t c =
    let g = around_of c.args.g.now in
    let ls = map local_of c.args.scope.now in
    let before = map typed_of c.loop-e.before.items in
    let left = args_after before (typed_args g ls (U.exprs (map expr_of (drop c.loop-e.e-index c.args.es.now)))) in
    sym {a = left} c.loop-e.invariant ∙ args_end g ls before c.args.es.now c.loop-e.e-index c.loop-e-test.false
