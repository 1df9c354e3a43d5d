use Rattle.std.proofs.Common.{rules, map, drop, ◌+◌}
use Rattle.std.proofs.lemmas.List.{at_drop_more, at_drop_all}
use Rattle.sl_ast.specs.Textures.{look_ups, look_ups_args, look_ups_stmt, look_ups_stmts}
use Rattle.sl_ast.specs.Typed.{exprs, stmts}
use Rattle.sl_ast.specs.TypedView.{tree_expr, tree_stmt}
use Rattle.sl_look_ups.specs.Nodes.{nodes}
use Rattle.sl_look_ups.proofs.Joined.{joined}
use Rattle.sl_look_ups.proofs.listing.+listing.Goals as goal

pub list_args-loop-e-preserved : goal.list_args-loop-e-preserved
list_args-loop-e-preserved t c =
    let rest = drop (c.loop-e.e-index + 1) c.args.args.now in
    let at = at_drop_more (λ r. look_ups_args (exprs (map tree_expr r))) c.args.args.now c.loop-e.e-index c.e-item.result c.loop-e-test.true in
    let order = joined (nodes c.loop-e.list.items) (look_ups (tree_expr c.e-item.result)) (look_ups_args (exprs (map tree_expr rest))) in
    search rules

pub list_args-returns : goal.list_args-returns
list_args-returns t c =
    let end = at_drop_all (λ r. look_ups_args (exprs (map tree_expr r))) c.args.args.now c.loop-e.e-index c.loop-e-test.false in
    search rules

pub list_stmts-loop-s-preserved : goal.list_stmts-loop-s-preserved
list_stmts-loop-s-preserved t c =
    let rest = drop (c.loop-s.s-index + 1) c.args.body.now in
    let at = at_drop_more (λ r. look_ups_stmts (stmts (map tree_stmt r))) c.args.body.now c.loop-s.s-index c.s-item.result c.loop-s-test.true in
    let order = joined (nodes c.loop-s.list.items) (look_ups_stmt (tree_stmt c.s-item.result)) (look_ups_stmts (stmts (map tree_stmt rest))) in
    search rules

pub list_stmts-returns : goal.list_stmts-returns
list_stmts-returns t c =
    let end = at_drop_all (λ r. look_ups_stmts (stmts (map tree_stmt r))) c.args.body.now c.loop-s.s-index c.loop-s-test.false in
    search rules
