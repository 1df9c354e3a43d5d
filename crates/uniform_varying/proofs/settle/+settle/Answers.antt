use Rattle.std.proofs.Common.{rules, ap, map}
use Rattle.std.proofs.lemmas.List.{at_drop_more, at_drop_all}
use Rattle.sl_ast.specs.Typed.{exprs, stmts}
use Rattle.sl_ast.specs.TypedView.{tree_expr, tree_stmt}
use Rattle.sl_ast.specs.Settled as spec
use Rattle.sl_ast.proofs.TypedShown.{apply_shown, call_shown, for_shown}
use Rattle.uniform_varying.specs.Gives.{spot_of}
use Rattle.uniform_varying.proofs.Scopes.{after_kept}
use Rattle.uniform_varying.proofs.settle.+settle.Goals as goal

pub settle_expr-returns-in-Apply : goal.settle_expr-returns-in-Apply
settle_expr-returns-in-Apply t c =
    let whole = ap (λ x. spec.settled_expr x c.args.us.now (spot_of c.args.spot) c.args.lit) (apply_shown c.args.e.now c.in-Apply.operation c.in-Apply.args c.in-Apply.kind c.in-Apply.place c.in-Apply.is) in
    search rules

pub settle_expr-returns-in-Call : goal.settle_expr-returns-in-Call
settle_expr-returns-in-Call t c =
    let whole = ap (λ x. spec.settled_expr x c.args.us.now (spot_of c.args.spot) c.args.lit) (call_shown c.args.e.now c.in-Call.args c.in-Call.formals c.in-Call.body c.in-Call.returned c.in-Call.value c.in-Call.kind c.in-Call.place c.in-Call.is) in
    search rules

pub settle_stmt-returns-in-For-clause-gives : goal.settle_stmt-returns-in-For-clause-gives
settle_stmt-returns-in-For-clause-gives t c =
    let whole = ap (λ x. spec.settled_stmt x c.args.us.now.items (spot_of c.args.spot) c.args.lit) (for_shown c.args.s.now c.in-For.first c.in-For.test c.in-For.step c.in-For.body c.in-For.place c.in-For.is) in
    search rules

pub settle_args-loop-e-preserved : goal.settle_args-loop-e-preserved
settle_args-loop-e-preserved t c =
    let at = at_drop_more (λ r. spec.settled_args (exprs (map tree_expr r)) c.args.us.now (spot_of c.args.spot) c.loop-e.lit) c.args.args.now c.loop-e.e-index c.e-item.result c.loop-e-test.true in
    search rules

pub settle_args-returns : goal.settle_args-returns
settle_args-returns t c =
    let end = at_drop_all (λ r. spec.settled_args (exprs (map tree_expr r)) c.args.us.now (spot_of c.args.spot) c.loop-e.lit) c.args.args.now c.loop-e.e-index c.loop-e-test.false in
    search rules

pub settle_stmts-loop-s-preserved : goal.settle_stmts-loop-s-preserved
settle_stmts-loop-s-preserved t c =
    let at = at_drop_more (λ r. spec.settled_stmts (stmts (map tree_stmt r)) c.loop-s.us.items (spot_of c.args.spot) c.loop-s.lit) c.args.body.now c.loop-s.s-index c.s-item.result c.loop-s-test.true in
    let kept = after_kept (tree_stmt c.s-item.result) c.args.us.now.items c.loop-s.us.items c.loop-s.invariant.front in
    record {
      behind = search rules;
      front = search rules;
    }

pub settle_stmts-returns-clause-gives : goal.settle_stmts-returns-clause-gives
settle_stmts-returns-clause-gives t c =
    let end = at_drop_all (λ r. spec.settled_stmts (stmts (map tree_stmt r)) c.loop-s.us.items (spot_of c.args.spot) c.loop-s.lit) c.args.body.now c.loop-s.s-index c.loop-s-test.false in
    search rules
