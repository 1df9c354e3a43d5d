use Rattle.std.proofs.Common.{rules, ◌+◌, false, drop, length, map, option_map, refl, arith, ap, sym, subst, ◌∙◌}
use Rattle.sl_ast.specs.Syntax as U
use Rattle.sl_ast.specs.SyntaxView.{expr_of, stmt_of, assignment_of, cone_of}
use Rattle.sl_ast.specs.declared.kinds.LightStmt.TheVariants.{Solar}
use Rattle.sl_expressions.specs.Exprs.{typed_expr, typed_args}
use Rattle.sl_expressions.specs.Found.{◌>>=◌}
use Rattle.sl_expressions.specs.TypedView.{tstmt_of}
use Rattle.sl_expressions.specs.Views.{Gives, around_of, local_of}
use Rattle.sl_typing.specs.Stmts as spec
use Rattle.sl_typing.specs.Stmts.{put_after, typed_stmt, typed_rows}
use Rattle.sl_typing.specs.Measures.{size_stmt, size_rows}
use Rattle.sl_typing.specs.Views.{boxed_of}
use Rattle.sl_typing.proofs.After.{row_fault, rows_step, rows_end}
use Rattle.sl_typing.proofs.Nodes.{block_is, small_stmt}
use Rattle.sl_typing.proofs.Scopes.{extends_trans, left_same}
use Rattle.sl_typing.proofs.StmtRows.{added, in_branch, steps_in_two}
use Rattle.sl_typing.proofs.stmts.+stmts.Goals as goal

pub rows-stmt-requires : goal.rows-stmt-requires
rows-stmt-requires t c =
    let small = small_stmt c.args.body.now c.loop-s.s-index c.s-item.result (omega arith) c.s-item.is in
    (omega (arith, c.decreases, small), tt)

pub rows-loop-s-preserved : goal.rows-loop-s-preserved
rows-loop-s-preserved t c =
    let g = around_of c.args.g.now in
    let rest = U.stmts (map stmt_of (drop (c.loop-s.s-index + 1) c.args.body.now)) in
    let step = rows_step g c.args.from (map tstmt_of c.loop-s.done.items) (map local_of c.loop-s.scope) c.args.body.now c.loop-s.s-index c.s-item.result (omega arith) c.s-item.is in
    let joined = ap (λ r. r >>= λ q. put_after q.0 (typed_rows g c.args.from q.1 rest)) c.in_ok-stmt.ensures.gives in
    record {
      same = sym joined ∙ sym step ∙ c.loop-s.invariant.same;
      extends = extends_trans c.args.scope.now c.loop-s.scope c.stmt.new.scope c.loop-s.invariant.extends c.in_ok-stmt.ensures.extends;
    }

pub rows-returns-in_err-stmt-clause-gives : goal.rows-returns-in_err-stmt-clause-gives
rows-returns-in_err-stmt-clause-gives t c =
    let g = around_of c.args.g.now in
    let rest = U.stmts (map stmt_of (drop (c.loop-s.s-index + 1) c.args.body.now)) in
    let step = rows_step g c.args.from (map tstmt_of c.loop-s.done.items) (map local_of c.loop-s.scope) c.args.body.now c.loop-s.s-index c.s-item.result c.loop-s-test.true c.s-item.is in
    let whole = row_fault _ _ c.stmt.new.done.items _ c.stmt.new.scope _ _ (λ q. put_after q.0 (typed_rows g c.args.from q.1 rest)) (sym c.loop-s.invariant.same ∙ step) c.in_err-stmt.ensures.gives in
    search rules

pub rows-returns-in_err-stmt-clause-extends : goal.rows-returns-in_err-stmt-clause-extends
rows-returns-in_err-stmt-clause-extends t c = extends_trans c.args.scope.now c.loop-s.scope c.stmt.new.scope c.loop-s.invariant.extends c.in_err-stmt.ensures.extends

pub rows-returns-clause-gives : goal.rows-returns-clause-gives
rows-returns-clause-gives t c =
    let g = around_of c.args.g.now in
    let done = map tstmt_of c.loop-s.done.items in
    let ls = map local_of c.loop-s.scope in
    let left = put_after done (typed_rows g c.args.from ls (U.stmts (map stmt_of (drop c.loop-s.s-index c.args.body.now)))) in
    sym {a = left} c.loop-s.invariant.same ∙ rows_end g c.args.from done ls c.args.body.now c.loop-s.s-index c.loop-s-test.false

pub stmt-block-body-requires : goal.stmt-block-body-requires
stmt-block-body-requires t c =
    let q = ap size_stmt (block_is c.args.s.now c.in-Block.body c.in-Block.line c.in-Block.is) in
    let d = ap (λ xs. size_rows (U.stmts (map stmt_of xs))) c.as_slice.ensures in
    (omega (arith, c.decreases, q, d), tt)

pub stmt-returns-in-Block : goal.stmt-returns-in-Block
stmt-returns-in-Block t c =
    let g = around_of c.args.g.now in
    let ls = map local_of c.args.scope.now in
    let line = c.in-Block.line in
    let is = ap (typed_stmt g c.args.from ls) (block_is c.args.s.now c.in-Block.body line c.in-Block.is)
    ∙ ap (λ xs. spec.blocked ls line (spec.inner (typed_rows g (length ls) ls (U.stmts (map stmt_of xs))))) (sym c.as_slice.ensures) in
    record {
      gives = added _ _ _ _ _ _ _ c.block-body.ensures.same is (c.add.ensures c.args.scope.now _ (c.block_node.ensures ls _ c.block-body.ensures.gives));
      extends = left_same _ _ c.block-body.ensures.same;
    }

pub stmt-returns-in-If : goal.stmt-returns-in-If
stmt-returns-in-If t c =
    let g = around_of c.args.g.now in
    let ls = map local_of c.args.scope.now in
    let test = spec.condition c.in-If.line (typed_expr g false ls (expr_of c.in-If.test)) in
    let is = ap (λ s. typed_stmt g c.args.from ls (stmt_of s)) c.in-If.is ∙ in_branch (spec.tested ls c.in-If.line test) g g ls _ _ c.deref.ensures refl in
    let node = c.if_node.ensures ls _ _ (c.condition-test.ensures _ c.expr.ensures) c.branch-then.ensures.gives in
    record {
      gives = added _ _ _ _ _ _ _ c.branch-then.ensures.same is (c.add-in-If.ensures c.args.scope.now _ node);
      extends = left_same _ _ c.branch-then.ensures.same;
    }

pub stmt-returns-in-IfElse : goal.stmt-returns-in-IfElse
stmt-returns-in-IfElse t c =
    let g = around_of c.args.g.now in
    let ls = map local_of c.args.scope.now in
    let line = c.in-IfElse.line in
    let test = spec.condition line (typed_expr g false ls (expr_of c.in-IfElse.test)) in
    let otherwise = spec.branch (typed_stmt g (length ls) ls (stmt_of c.in-IfElse.otherwise.value)) in
    let then = spec.branch (typed_stmt g (length ls) ls (stmt_of c.deref-in-IfElse.result.now)) in
    let is = ap (λ s. typed_stmt g c.args.from ls (stmt_of s)) c.in-IfElse.is ∙ in_branch (λ r. spec.tested_else ls line test r otherwise) g g ls _ _ c.deref-in-IfElse.ensures refl
    ∙ in_branch (spec.tested_else ls line test then) g g ls _ _ c.deref-in-IfElse-2.ensures refl in
    let second = subst (λ k. Gives boxed_of c.branch-otherwise.result (spec.branch (typed_stmt g (length (map local_of k)) (map local_of k) (stmt_of c.deref-in-IfElse-2.result.now)))) c.branch-then-in-IfElse.ensures.same c.branch-otherwise.ensures.gives in
    let node = c.if_else_node.ensures ls _ _ _ (c.condition-test-in-IfElse.ensures _ c.expr-in-IfElse.ensures) c.branch-then-in-IfElse.ensures.gives second in
    let same = c.branch-otherwise.ensures.same ∙ c.branch-then-in-IfElse.ensures.same in
    record {
      gives = added _ _ _ _ _ _ _ same is (c.add-in-IfElse.ensures c.args.scope.now _ node);
      extends = left_same _ _ same;
    }

pub stmt-returns-in-While : goal.stmt-returns-in-While
stmt-returns-in-While t c =
    let g = around_of c.args.g.now in
    let ls = map local_of c.args.scope.now in
    let test = spec.condition c.in-While.line (typed_expr g false ls (expr_of c.in-While.test)) in
    let is = ap (λ s. typed_stmt g c.args.from ls (stmt_of s)) c.in-While.is ∙ in_branch (spec.repeated ls c.in-While.line test) (spec.in_loop g) _ ls _ _ c.deref-in-While.ensures c.in_loop.ensures in
    let node = c.while_node.ensures ls _ _ (c.condition-test-in-While.ensures _ c.expr-in-While.ensures) c.branch-body.ensures.gives in
    record {
      gives = added _ _ _ _ _ _ _ c.branch-body.ensures.same is (c.add-in-While.ensures c.args.scope.now _ node);
      extends = left_same _ _ c.branch-body.ensures.same;
    }

pub stmt-returns-in-For : goal.stmt-returns-in-For
stmt-returns-in-For t c =
    let g = around_of c.args.g.now in
    let ls = map local_of c.args.scope.now in
    let line = c.in-For.line in
    let test = typed_expr g false ls (expr_of c.in-For.test) in
    let first = spec.optional_set g ls (option_map assignment_of c.in-For.first) in
    let step = spec.optional_set g ls (option_map assignment_of c.in-For.step) in
    let is = ap (λ s. typed_stmt g c.args.from ls (stmt_of s)) c.in-For.is ∙ in_branch (spec.stepped ls line first test step) (spec.in_loop g) _ ls _ _ c.deref-in-For.ensures c.in_loop-in-For.ensures
    ∙ steps_in_two ls line first test step _ in
    let node = c.for_node.ensures ls _ _ _ (c.for_head.ensures _ _ c.expr-test.ensures c.optional_set-first.ensures) c.optional_set-step.ensures c.branch-body-in-For.ensures.gives in
    record {
      gives = added _ _ _ _ _ _ _ c.branch-body-in-For.ensures.same is (c.add-in-For.ensures c.args.scope.now _ node);
      extends = left_same _ _ c.branch-body-in-For.ensures.same;
    }

pub stmt-returns-in-Lights : goal.stmt-returns-in-Lights
stmt-returns-in-Lights t c =
    let g = around_of c.args.g.now in
    let ls = map local_of c.args.scope.now in
    let line = c.in-Lights.line in
    let word = c.light_word-word.result in
    let args = typed_args g ls (spec.light_args (expr_of c.in-Lights.place) (option_map cone_of c.in-Lights.cone)) in
    let body = spec.branch (typed_stmt (spec.in_lights g) (length ls) ls (stmt_of c.in-Lights.body.value)) in
    let is = ap (λ s. typed_stmt g c.args.from ls (stmt_of s)) c.in-Lights.is ∙ ap (λ w. spec.lighted ls w line (spec.lights_of g.at w line args) body) (sym c.light_word-word.ensures)
    ∙ in_branch (spec.lighted ls word line (spec.lights_of g.at word line args)) (spec.in_lights g) _ ls _ _ c.deref-in-Lights.ensures c.in_lights.ensures in
    let node = c.lights_node.ensures ls _ _ (c.lights_of-args.ensures _ c.light_args-args.ensures) c.branch-body-in-Lights.ensures.gives in
    record {
      gives = added _ _ _ _ _ _ _ c.branch-body-in-Lights.ensures.same is (c.add-in-Lights.ensures c.args.scope.now _ node);
      extends = left_same _ _ c.branch-body-in-Lights.ensures.same;
    }

pub stmt-returns-in-Solar : goal.stmt-returns-in-Solar
stmt-returns-in-Solar t c =
    let g = around_of c.args.g.now in
    let ls = map local_of c.args.scope.now in
    let line = c.in-Solar.line in
    let args = spec.lights_of g.at Solar line (typed_args g ls (U.more (expr_of c.in-Solar.axis) (U.more (expr_of c.in-Solar.angle) U.none))) in
    let is = ap (λ s. typed_stmt g c.args.from ls (stmt_of s)) c.in-Solar.is ∙ in_branch (spec.lighted ls Solar line args) (spec.in_lights g) _ ls _ _ c.deref-in-Solar.ensures c.in_lights-in-Solar.ensures in
    let node = c.lights_node-in-Solar.ensures ls _ _ (c.lights_of-args-in-Solar.ensures _ c.solar_args-args.ensures) c.branch-body-in-Solar.ensures.gives in
    record {
      gives = added _ _ _ _ _ _ _ c.branch-body-in-Solar.ensures.same is (c.add-in-Solar.ensures c.args.scope.now _ node);
      extends = left_same _ _ c.branch-body-in-Solar.ensures.same;
    }
