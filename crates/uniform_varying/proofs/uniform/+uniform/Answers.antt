use Rattle.std.proofs.Common.{rules, ap, map}
use Rattle.std.proofs.lemmas.List.{at_drop_more, at_drop_all}
use Rattle.sl_ast.specs.Typed.{exprs, stmts}
use Rattle.sl_ast.specs.TypedView.{tree_expr, tree_stmt}
use Rattle.sl_ast.specs.Classes as spec
use Rattle.sl_ast.proofs.TypedShown.{call_shown}
use Rattle.uniform_varying.proofs.Scopes.{after_kept}
use Rattle.uniform_varying.proofs.uniform.+uniform.Goals as goal

-- src/uniform.rt:29:17
pub is_uniform-returns-then-not-branch : goal.is_uniform-returns-then-not-branch
is_uniform-returns-then-not-branch t c =
    let whole = ap (λ x. spec.is_uniform x c.args.us.now) (call_shown c.args.e.now c.in-Call.args c.in-Call.formals c.in-Call.body c.in-Call.returned c.in-Call.value c.in-Call.kind c.in-Call.place c.in-Call.is) in
    search rules

pub are_uniform-loop-e-preserved : goal.are_uniform-loop-e-preserved
are_uniform-loop-e-preserved t c =
    let at = at_drop_more (λ r. spec.are_uniform (exprs (map tree_expr r)) c.args.us.now) c.args.args.now c.loop-e.e-index c.e-item.result c.loop-e-test.true in
    search rules

pub are_uniform-returns-then-not-branch : goal.are_uniform-returns-then-not-branch
are_uniform-returns-then-not-branch t c =
    let at = at_drop_more (λ r. spec.are_uniform (exprs (map tree_expr r)) c.args.us.now) c.args.args.now c.loop-e.e-index c.e-item.result c.loop-e-test.true in
    search rules

pub are_uniform-returns : goal.are_uniform-returns
are_uniform-returns t c =
    let end = at_drop_all (λ r. spec.are_uniform (exprs (map tree_expr r)) c.args.us.now) c.args.args.now c.loop-e.e-index c.loop-e-test.false in
    search rules

pub stmts_uniform-loop-s-preserved : goal.stmts_uniform-loop-s-preserved
stmts_uniform-loop-s-preserved t c =
    let at = at_drop_more (λ r. spec.stmts_uniform (stmts (map tree_stmt r)) c.loop-s.us.items) c.args.body.now c.loop-s.s-index c.s-item.result c.loop-s-test.true in
    let kept = after_kept (tree_stmt c.s-item.result) c.args.us.now.items c.loop-s.us.items c.loop-s.invariant.front in
    record {
      behind = search rules;
      front = search rules;
    }

pub stmts_uniform-returns-clause-class : goal.stmts_uniform-returns-clause-class
stmts_uniform-returns-clause-class t c =
    let end = at_drop_all (λ r. spec.stmts_uniform (stmts (map tree_stmt r)) c.loop-s.us.items) c.args.body.now c.loop-s.s-index c.loop-s-test.false in
    search rules

pub stmts_uniform-returns-then-not-branch-clause-class : goal.stmts_uniform-returns-then-not-branch-clause-class
stmts_uniform-returns-then-not-branch-clause-class t c =
    let at = at_drop_more (λ r. spec.stmts_uniform (stmts (map tree_stmt r)) c.loop-s.us.items) c.args.body.now c.loop-s.s-index c.s-item.result c.loop-s-test.true in
    search rules
