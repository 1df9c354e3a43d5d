use Rattle.std.proofs.Common.{◌+◌, drop, map, refl, arith, ap, sym, ◌∙◌}
use Rattle.std.proofs.lemmas.List.{at_drop_more}
use Rattle.sl_types.specs.Folds.{fold, fold_args, fold_stmt, fold_stmts}
use Rattle.sl_types.specs.Extents.{nowhere, beside, counting}
use Rattle.sl_types.specs.Sizes.{cut, extent_of}
use Rattle.sl_expressions.specs.Typed as T
use Rattle.sl_expressions.specs.TypedView.{typed_of, tstmt_of}
use Rattle.sl_types.proofs.Joins.{cut_twice, joined}
use Rattle.sl_types.proofs.TypedNodes.{for_shown}
use Rattle.sl_types.proofs.sizes.+size_stmt.Goals as goal

pub size_stmt-returns-in-Empty : goal.size_stmt-returns-in-Empty
size_stmt-returns-in-Empty t c = λ fs is. c.over.ensures nowhere refl ∙ ap (λ s. cut (fold_stmt counting fs (tstmt_of s))) (sym c.in-Empty.is)

pub size_stmt-returns-in-Break : goal.size_stmt-returns-in-Break
size_stmt-returns-in-Break t c = λ fs is. c.over-in-Break.ensures nowhere refl ∙ ap (λ s. cut (fold_stmt counting fs (tstmt_of s))) (sym c.in-Break.is)

pub size_stmt-returns-in-Continue : goal.size_stmt-returns-in-Continue
size_stmt-returns-in-Continue t c = λ fs is. c.over-in-Continue.ensures nowhere refl ∙ ap (λ s. cut (fold_stmt counting fs (tstmt_of s))) (sym c.in-Continue.is)

pub size_stmt-returns-in-Start : goal.size_stmt-returns-in-Start
size_stmt-returns-in-Start t c = λ fs is. c.over-in-Start.ensures nowhere refl ∙ ap (λ s. cut (fold_stmt counting fs (tstmt_of s))) (sym c.in-Start.is)

pub size_stmt-returns-in-If : goal.size_stmt-returns-in-If
size_stmt-returns-in-If t c = λ fs is.
    let test = fold counting fs (typed_of c.in-If.test) in
    let then = fold_stmt counting fs (tstmt_of c.in-If.then.value) in
    let branch = c.size_stmt.ensures fs is ∙ ap (λ s. cut (fold_stmt counting fs (tstmt_of s))) c.deref.ensures in
    c.over-in-If.ensures (beside test then) (c.with.ensures test then (c.size-in-If.ensures fs is) branch) ∙ ap (λ s. cut (fold_stmt counting fs (tstmt_of s))) (sym c.in-If.is)

pub size_stmt-returns-in-IfElse : goal.size_stmt-returns-in-IfElse
size_stmt-returns-in-IfElse t c = λ fs is.
    let test = fold counting fs (typed_of c.in-IfElse.test) in
    let then = fold_stmt counting fs (tstmt_of c.in-IfElse.then.value) in
    let otherwise = fold_stmt counting fs (tstmt_of c.in-IfElse.otherwise.value) in
    let one = c.size_stmt-in-IfElse.ensures fs is ∙ ap (λ s. cut (fold_stmt counting fs (tstmt_of s))) c.deref-in-IfElse.ensures in
    let other = c.size_stmt-in-IfElse-2.ensures fs is ∙ ap (λ s. cut (fold_stmt counting fs (tstmt_of s))) c.deref-in-IfElse-2.ensures in
    c.over-in-IfElse.ensures (beside test (beside then otherwise))
    (c.with-in-IfElse.ensures test (beside then otherwise) (c.size-in-IfElse.ensures fs is) (c.with-branches.ensures then otherwise one other))
    ∙ ap (λ s. cut (fold_stmt counting fs (tstmt_of s))) (sym c.in-IfElse.is)

pub size_stmt-returns-in-While : goal.size_stmt-returns-in-While
size_stmt-returns-in-While t c = λ fs is.
    let test = fold counting fs (typed_of c.in-While.test) in
    let body = fold_stmt counting fs (tstmt_of c.in-While.body.value) in
    let turn = c.size_stmt-in-While.ensures fs is ∙ ap (λ s. cut (fold_stmt counting fs (tstmt_of s))) c.deref-in-While.ensures in
    c.over-in-While.ensures (beside test body) (c.with-in-While.ensures test body (c.size-in-While.ensures fs is) turn)
    ∙ ap (λ s. cut (fold_stmt counting fs (tstmt_of s))) (sym c.in-While.is)

pub size_stmt-returns-in-For : goal.size_stmt-returns-in-For
size_stmt-returns-in-For t c = λ fs is.
    let first = fold_stmts counting fs (T.stmts (map tstmt_of c.in-For.first)) in
    let test = fold counting fs (typed_of c.in-For.test) in
    let step = fold_stmts counting fs (T.stmts (map tstmt_of c.in-For.step)) in
    let body = fold_stmt counting fs (tstmt_of c.in-For.body.value) in
    let turn = beside step body in
    let begins = c.size_stmts-in-For-2.ensures fs is ∙ ap (λ ss. cut (fold_stmts counting fs (T.stmts (map tstmt_of ss)))) c.as_slice-in-For-2.ensures in
    let steps = c.size_stmts-in-For.ensures fs is ∙ ap (λ ss. cut (fold_stmts counting fs (T.stmts (map tstmt_of ss)))) c.as_slice-in-For.ensures in
    let does = c.size_stmt-in-For.ensures fs is ∙ ap (λ s. cut (fold_stmt counting fs (tstmt_of s))) c.deref-in-For.ensures in
    let turns = c.with-turn.ensures step body steps does in
    let tested = c.with-tested.ensures test turn (c.size-in-For.ensures fs is) turns in
    c.over-in-For.ensures (beside first (beside test turn)) (c.with-in-For.ensures first (beside test turn) begins tested)
    ∙ ap (λ s. cut (fold_stmt counting fs s)) (sym (for_shown c.args.s.now c.in-For.first c.in-For.test c.in-For.step c.in-For.body c.in-For.line c.in-For.is))

pub size_stmt-returns-in-Lights : goal.size_stmt-returns-in-Lights
size_stmt-returns-in-Lights t c = λ fs is.
    let args = fold_args counting fs (T.exprs (map typed_of c.in-Lights.args)) in
    let body = fold_stmt counting fs (tstmt_of c.in-Lights.body.value) in
    let parts = c.size_args.ensures fs is ∙ ap (λ es. cut (fold_args counting fs (T.exprs (map typed_of es)))) c.as_slice-in-Lights.ensures in
    let lit = c.size_stmt-in-Lights.ensures fs is ∙ ap (λ s. cut (fold_stmt counting fs (tstmt_of s))) c.deref-in-Lights.ensures in
    c.over-in-Lights.ensures (beside args body) (c.with-in-Lights.ensures args body parts lit) ∙ ap (λ s. cut (fold_stmt counting fs (tstmt_of s))) (sym c.in-Lights.is)

pub size_stmts-loop-s-preserved : goal.size_stmts-loop-s-preserved
size_stmts-loop-s-preserved t c = λ fs is.
    let h = c.loop-s.invariant fs is in
    let before = extent_of c.loop-s.before in
    let after = extent_of c.with-before.result in
    let x = fold_stmt counting fs (tstmt_of c.s-item.result) in
    let rest = fold_stmts counting fs (T.stmts (map tstmt_of (drop (c.loop-s.s-index + 1) c.args.body.now))) in
    let grown = c.with-before.ensures before x h.0 (c.size_stmt.ensures fs is) in
    let split = at_drop_more (λ ss. cut (beside before (fold_stmts counting fs (T.stmts (map tstmt_of ss))))) c.args.body.now c.loop-s.s-index c.s-item.result (omega arith) in
    let item = ap (λ s. cut (beside before (beside (fold_stmt counting fs (tstmt_of s)) rest))) (sym c.s-item.is) in
    (cut_twice after (beside before x) grown, joined after before x rest grown ∙ sym item ∙ sym split ∙ h.1)
