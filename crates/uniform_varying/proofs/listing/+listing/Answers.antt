use Rattle.std.proofs.Common.{rules, map, drop, ◌+◌}
use Rattle.std.proofs.lemmas.List.{at_drop_more, at_drop_all}
use Rattle.sl_ast.specs.Typed.{exprs, stmts}
use Rattle.sl_ast.specs.TypedView.{tree_expr, tree_stmt}
use Rattle.sl_ast.specs.Classes as spec
use Rattle.uniform_varying.proofs.Scopes.{after_kept, joined}
use Rattle.uniform_varying.proofs.listing.+listing.Goals as goal

pub list_args-loop-e-preserved : goal.list_args-loop-e-preserved
list_args-loop-e-preserved t c =
    let rest = drop (c.loop-e.e-index + 1) c.args.args.now in
    let at = at_drop_more (λ r. spec.classes_args (exprs (map tree_expr r)) c.args.us.now c.args.uniform) c.args.args.now c.loop-e.e-index c.e-item.result c.loop-e-test.true in
    let order = joined c.loop-e.list.items (spec.classes (tree_expr c.e-item.result) c.args.us.now c.args.uniform) (spec.classes_args (exprs (map tree_expr rest)) c.args.us.now c.args.uniform) in
    search rules

pub list_args-returns : goal.list_args-returns
list_args-returns t c =
    let end = at_drop_all (λ r. spec.classes_args (exprs (map tree_expr r)) c.args.us.now c.args.uniform) c.args.args.now c.loop-e.e-index c.loop-e-test.false in
    search rules

pub list_stmts-loop-s-preserved : goal.list_stmts-loop-s-preserved
list_stmts-loop-s-preserved t c =
    let item = tree_stmt c.s-item.result in
    let rest = drop (c.loop-s.s-index + 1) c.args.body.now in
    let at = at_drop_more (λ r. spec.classes_stmts (stmts (map tree_stmt r)) c.loop-s.us.items c.args.uniform) c.args.body.now c.loop-s.s-index c.s-item.result c.loop-s-test.true in
    let order = joined c.loop-s.list.items (spec.classes_stmt item c.loop-s.us.items c.args.uniform) (spec.classes_stmts (stmts (map tree_stmt rest)) (spec.after item c.loop-s.us.items) c.args.uniform) in
    let kept = after_kept item c.args.us.now.items c.loop-s.us.items c.loop-s.invariant.front in
    record {
      behind = search rules;
      front = search rules;
    }

pub list_stmts-returns-clause-list : goal.list_stmts-returns-clause-list
list_stmts-returns-clause-list t c =
    let end = at_drop_all (λ r. spec.classes_stmts (stmts (map tree_stmt r)) c.loop-s.us.items c.args.uniform) c.args.body.now c.loop-s.s-index c.loop-s-test.false in
    search rules
