use Rattle.std.proofs.Common.{rules, ap, map}
use Rattle.std.proofs.lemmas.List.{at_drop_more, at_drop_all}
use Rattle.sl_ast.specs.Typed.{stmts}
use Rattle.sl_ast.specs.TypedView.{tree_stmt}
use Rattle.sl_ast.specs.Classes as spec
use Rattle.sl_ast.proofs.TypedShown.{block_shown, group_shown, lights_shown}
use Rattle.uniform_varying.proofs.Scopes.{after_kept}
use Rattle.uniform_varying.proofs.leaving.+leaving.Goals as goal

pub leaves_together-returns-in-Block-clause-class : goal.leaves_together-returns-in-Block-clause-class
leaves_together-returns-in-Block-clause-class t c =
    let whole = ap (λ x. spec.leaves_together x c.args.us.now.items c.args.uniform) (block_shown c.args.s.now c.in-Block.body c.in-Block.place c.in-Block.is) in
    search rules

pub leaves_together-returns-in-Group-clause-class : goal.leaves_together-returns-in-Group-clause-class
leaves_together-returns-in-Group-clause-class t c =
    let whole = ap (λ x. spec.leaves_together x c.args.us.now.items c.args.uniform) (group_shown c.args.s.now c.in-Group.body c.in-Group.is) in
    search rules

pub leaves_together-returns-in-Lights-clause-class : goal.leaves_together-returns-in-Lights-clause-class
leaves_together-returns-in-Lights-clause-class t c =
    let whole = ap (λ x. spec.leaves_together x c.args.us.now.items c.args.uniform) (lights_shown c.args.s.now c.in-Lights.word c.in-Lights.args c.in-Lights.body c.in-Lights.place c.in-Lights.is) in
    search rules

pub leave_together-loop-s-preserved : goal.leave_together-loop-s-preserved
leave_together-loop-s-preserved t c =
    let at = at_drop_more (λ r. spec.leave_together (stmts (map tree_stmt r)) c.loop-s.us.items c.args.uniform) c.args.body.now c.loop-s.s-index c.s-item.result c.loop-s-test.true in
    let kept = after_kept (tree_stmt c.s-item.result) c.args.us.now.items c.loop-s.us.items c.loop-s.invariant.front in
    record {
      behind = search rules;
      front = search rules;
    }

pub leave_together-returns-clause-class : goal.leave_together-returns-clause-class
leave_together-returns-clause-class t c =
    let end = at_drop_all (λ r. spec.leave_together (stmts (map tree_stmt r)) c.loop-s.us.items c.args.uniform) c.args.body.now c.loop-s.s-index c.loop-s-test.false in
    search rules

pub leave_together-returns-clause-same : goal.leave_together-returns-clause-same
leave_together-returns-clause-same t c = search rules

pub leave_together-returns-then-not-branch-clause-class : goal.leave_together-returns-then-not-branch-clause-class
leave_together-returns-then-not-branch-clause-class t c =
    let at = at_drop_more (λ r. spec.leave_together (stmts (map tree_stmt r)) c.loop-s.us.items c.args.uniform) c.args.body.now c.loop-s.s-index c.s-item.result c.loop-s-test.true in
    search rules

pub leave_together-returns-then-not-branch-clause-same : goal.leave_together-returns-then-not-branch-clause-same
leave_together-returns-then-not-branch-clause-same t c = search rules
