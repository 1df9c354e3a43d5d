use Rattle.std.proofs.Common.{arith, ◌+◌, ◌∙◌, ap, sym, map, drop}
use Rattle.std.proofs.lemmas.List.{at_drop_more, at_drop_all}
use Rattle.sl_ast.proofs.TypedShown.{call_shown, for_shown}
use Rattle.sl_ast.specs.Typed.{exprs, stmts}
use Rattle.sl_ast.specs.TypedView.{tree_expr, tree_stmt}
use Rattle.sl_ast.specs.Classes.{formal_classes, after_all, is_uniform}
use Rattle.sl_ast.specs.Registers as spec
use Rattle.uniform_varying.specs.Counts.{counted}
use Rattle.uniform_varying.proofs.Sums.{back, more, turn, ended}
use Rattle.uniform_varying.proofs.counted.+counted.Goals as goal

pub rows_args-loop-e-preserved : goal.rows_args-loop-e-preserved
rows_args-loop-e-preserved t c =
    let rest = spec.rows_args (exprs (map tree_expr (drop (c.loop-e.e-index + 1) c.args.args.now))) c.args.us.now in
    let split = at_drop_more (λ r. spec.rows_args (exprs (map tree_expr r)) c.args.us.now) c.args.args.now c.loop-e.e-index c.e-item.result c.loop-e-test.true in
    let part = c.in_ok-rows_expr.ensures ∙ ap (λ x. counted (spec.rows (tree_expr x) c.args.us.now)) c.e-item.is in
    record {
      behind = ap (λ k. counted (k + rest)) c.plus-rows.ensures ∙ turn _ _ rest _ _ _ c.loop-e.invariant.behind split part;
      small = omega (arith, c.plus-rows.ensures);
    }

pub rows_args-returns : goal.rows_args-returns
rows_args-returns t c =
    let end = at_drop_all (λ r. spec.rows_args (exprs (map tree_expr r)) c.args.us.now) c.args.args.now c.loop-e.e-index c.loop-e-test.false in
    ended _ _ _ c.loop-e.invariant.small c.loop-e.invariant.behind end

pub rows_expr-returns-in_ok-returned-in-Call : goal.rows_expr-returns-in_ok-returned-in-Call
rows_expr-returns-in_ok-returned-in-Call t c =
    let us = c.args.us.now in
    let body = stmts (map tree_stmt c.in-Call.body) in
    let shown = call_shown c.args.e.now c.in-Call.args c.in-Call.formals c.in-Call.body c.in-Call.returned c.in-Call.value c.in-Call.kind c.in-Call.place c.in-Call.is in
    let scope = c.in_ok-inside-in-Call.ensures ∙ ap formal_classes c.as_slice-in-Call-2.ensures in
    let behind = c.deref-in-Call-2.ensures.value ∙ c.in_ok-enter_all-in-Call.ensures
    ∙ ap (λ l. after_all (stmts (map tree_stmt l)) c.rows_stmts.new.us.items) c.as_slice-in-Call-4.ensures
    ∙ ap (after_all body) (c.in_ok-ran-in-Call.ensures.same ∙ scope) in
    let own = c.row_unless-own.ensures ∙ ap spec.row_unless c.in_ok-is_uniform.ensures ∙ ap (λ x. spec.row_unless (is_uniform x us)) shown in
    let passed = c.in_ok-passed-in-Call.ensures ∙ ap (λ l. counted (spec.rows_args (exprs (map tree_expr l)) us)) c.as_slice-in-Call.ensures in
    let variables = c.rows_of_classes-variables.ensures ∙ ap (λ vs. counted (spec.rows_of_classes vs)) (c.deref.ensures.value ∙ scope) in
    let ran = c.in_ok-ran-in-Call.ensures.rows ∙ ap (λ l. counted (spec.rows_stmts (stmts (map tree_stmt l)) c.in_ok-inside-in-Call.inside.items)) c.as_slice-in-Call-3.ensures
    ∙ ap (λ vs. counted (spec.rows_stmts body vs)) scope in
    let returned = c.in_ok-returned-in-Call.ensures ∙ ap (λ x. counted (spec.rows (tree_expr x) c.deref-in-Call-2.result.now)) c.deref-in-Call.ensures
    ∙ ap (λ vs. counted (spec.rows (tree_expr c.in-Call.value.value) vs)) behind in
    c.called_rows.ensures
    ∙ more _ _ _ _ (ap counted own) (more _ _ _ _ (back _ _ passed) (more _ _ _ _ (back _ _ variables) (more _ _ _ _ (back _ _ ran) (back _ _ returned))))
    ∙ ap (λ x. counted (spec.rows x us)) (sym shown)

pub rows_stmt-returns-in_ok-turned-in-For-clause-rows : goal.rows_stmt-returns-in_ok-turned-in-For-clause-rows
rows_stmt-returns-in_ok-turned-in-For-clause-rows t c =
    let us = c.args.us.now.items in
    let kept = c.in_ok-begun-in-For.ensures.same in
    let begun = c.in_ok-begun-in-For.ensures.rows ∙ ap (λ l. counted (spec.rows_stmts (stmts (map tree_stmt l)) us)) c.as_slice-in-For.ensures in
    let asked = c.in_ok-asked-in-For.ensures ∙ ap (λ vs. counted (spec.rows (tree_expr c.in-For.test) vs)) (c.deref-in-For.ensures.value ∙ kept) in
    let stepped = c.in_ok-stepped-in-For.ensures.rows ∙ ap (λ l. counted (spec.rows_stmts (stmts (map tree_stmt l)) c.rows_stmts-in-For.new.us.items)) c.as_slice-in-For-2.ensures
    ∙ ap (λ vs. counted (spec.rows_stmts (stmts (map tree_stmt c.in-For.step)) vs)) kept in
    let turned = c.in_ok-turned-in-For.ensures.rows ∙ ap (λ x. counted (spec.rows_stmt (tree_stmt x) c.rows_stmts-in-For-2.new.us.items)) c.deref-in-For-2.ensures
    ∙ ap (λ vs. counted (spec.rows_stmt (tree_stmt c.in-For.body.value) vs)) (c.in_ok-stepped-in-For.ensures.same ∙ kept) in
    let shown = for_shown c.args.s.now c.in-For.first c.in-For.test c.in-For.step c.in-For.body c.in-For.place c.in-For.is in
    c.looped_rows.ensures
    ∙ more _ _ _ _ (back _ _ begun) (more _ _ _ _ (back _ _ asked) (more _ _ _ _ (back _ _ stepped) (back _ _ turned)))
    ∙ ap (λ x. counted (spec.rows_stmt x us)) (sym shown)
