use Rattle.std.proofs.Common.{◌+◌, [], ◌∷◌, ◌++◌, drop, take, map, get_or, refl, arith, ap, sym, ◌∙◌}
use Rattle.std.proofs.lemmas.List.{at_drop_more, take_more}
use Rattle.sl_types.specs.Folds.{fold, fold_args}
use Rattle.sl_types.specs.Extents.{nowhere, absent, beside, counting}
use Rattle.sl_types.specs.Sizes.{cut, extent_of}
use Rattle.sl_expressions.specs.Typed as T
use Rattle.sl_expressions.specs.TypedView.{typed_of, tlink_of}
use Rattle.sl_types.proofs.Chains.{chain_shown}
use Rattle.sl_expressions.proofs.Chains.{grown_chain}
use Rattle.sl_types.proofs.Joins.{at_cut, cut_twice, joined}
use Rattle.sl_types.proofs.TypedNodes.{call_shown}
use Rattle.sl_types.proofs.sizes.+size.Goals as goal

pub size-returns-in-Number : goal.size-returns-in-Number
size-returns-in-Number t c = λ fs is. c.over.ensures nowhere refl ∙ ap (λ e. cut (fold counting fs (typed_of e))) (sym c.in-Number.is)

pub size-returns-in-Word : goal.size-returns-in-Word
size-returns-in-Word t c = λ fs is. c.over-in-Word.ensures nowhere refl ∙ ap (λ e. cut (fold counting fs (typed_of e))) (sym c.in-Word.is)

pub size-returns-in-Variable : goal.size-returns-in-Variable
size-returns-in-Variable t c = λ fs is. c.over-in-Variable.ensures nowhere refl ∙ ap (λ e. cut (fold counting fs (typed_of e))) (sym c.in-Variable.is)

pub size-returns-in-Chain : goal.size-returns-in-Chain
size-returns-in-Chain t c = λ fs is.
    let e = typed_of c.in-Chain.first.value in
    let first = c.size.ensures fs is ∙ ap (λ x. cut (fold counting fs (typed_of x))) c.deref.ensures in
    let before = c.size_links-before.ensures fs e is first ∙ ap (λ xs. cut (fold counting fs (T.chained e (map tlink_of xs)))) c.as_slice-in-Chain.ensures in
    let operand = c.size-in-Chain.ensures fs is ∙ ap (λ x. cut (fold counting fs (typed_of x))) c.deref-in-Chain.ensures in
    c.pair.ensures (fold counting fs (T.chained e (map tlink_of c.in-Chain.links))) (fold counting fs (typed_of c.in-Chain.operand.value)) before operand
    ∙ ap (λ x. cut (fold counting fs x))
    (sym (chain_shown c.args.e.now c.in-Chain.first c.in-Chain.links c.in-Chain.operation c.in-Chain.operand c.in-Chain.kind c.in-Chain.line c.in-Chain.is))

pub size-returns-in-Call : goal.size-returns-in-Call
size-returns-in-Call t c = λ fs is.
    let parts = c.size_args-parts.ensures fs is ∙ ap (λ xs. cut (fold_args counting fs (T.exprs (map typed_of xs)))) c.as_slice-in-Call.ensures in
    let body = c.size_of.ensures ∙ ap (λ xs. get_or xs c.in-Call.function absent) is ∙ at_cut fs c.in-Call.function in
    let a = fold_args counting fs (T.exprs (map typed_of c.in-Call.args)) in
    let b = get_or fs c.in-Call.function absent in
    c.over-in-Call.ensures (beside a b) (c.with.ensures a b parts body)
    ∙ ap (λ x. cut (fold counting fs x)) (sym (call_shown c.args.e.now c.in-Call.function c.in-Call.args c.in-Call.kind c.in-Call.line c.in-Call.is))

pub size_args-loop-e-preserved : goal.size_args-loop-e-preserved
size_args-loop-e-preserved t c = λ fs is.
    let h = c.loop-e.invariant fs is in
    let before = extent_of c.loop-e.before in
    let after = extent_of c.with-before.result in
    let x = fold counting fs (typed_of c.e-item.result) in
    let rest = fold_args counting fs (T.exprs (map typed_of (drop (c.loop-e.e-index + 1) c.args.args.now))) in
    let grown = c.with-before.ensures before x h.0 (c.size.ensures fs is) in
    let split = at_drop_more (λ es. cut (beside before (fold_args counting fs (T.exprs (map typed_of es))))) c.args.args.now c.loop-e.e-index c.e-item.result (omega arith) in
    let item = ap (λ e. cut (beside before (beside (fold counting fs (typed_of e)) rest))) (sym c.e-item.is) in
    (cut_twice after (beside before x) grown, joined after before x rest grown ∙ sym item ∙ sym split ∙ h.1)

pub size_links-loop-link-preserved : goal.size_links-loop-link-preserved
size_links-loop-link-preserved t c = λ fs e is first.
    let links = c.args.links.now in
    let i = c.loop-link.link-index in
    let x = c.link-item.result in
    let before = T.chained e (map tlink_of (take i links)) in
    let more = take_more links i x (omega arith) ∙ ap (λ l. take i links ++ l ∷ []) (sym c.link-item.is) in
    c.pair-before.ensures (fold counting fs before) (fold counting fs (typed_of x.operand)) (c.loop-link.invariant fs e is first) (c.size.ensures fs is)
    ∙ ap (λ y. cut (fold counting fs y)) (sym (grown_chain e (take i links) (take (i + 1) links) x more))
