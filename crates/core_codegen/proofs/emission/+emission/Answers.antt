use Rattle.std.proofs.Common.{arith, refl, ◌≡◌, ◌++◌, length, sym, ap, ◌∙◌, subst}
use Rattle.std.specs.Prelude.{◌&&◌}
use Rattle.std.proofs.lemmas.Result.{IfOk-weaker, on_ok_weaker}
use Rattle.builtins.specs.Values.{shape_of}
use Rattle.core_codegen.specs.Registers.{applied_at, looked_at}
use Rattle.grid_code.specs.Code.{◌then◌}
use Rattle.grid_code.specs.Names.{reg}
use Rattle.grid_code.specs.View.{block_of}
use Rattle.sl_meaning.specs.Core.{formals, after_all, stmt_uniform, stmts_uniform}
use Rattle.sl_meaning.specs.CoreView.{expr_of, exprs_of, args_of, stmt_of, stmts_of, loop_of}
use Rattle.sl_meaning.proofs.CoreRows.{apply_shown, sum_shown, texture_shown, call_shown, block_shown, test_shown, repeat_shown, lights_shown}
use Rattle.core_codegen.specs.Compile.{at, all_at, expr_code, exprs_code, args_code, locals, all_locals, behind, stmt_code, all_code}
use Rattle.grid_code.specs.Shapes.{register_class, are_uniform_registers}
use Rattle.core_codegen.specs.Sizes.{ScopedExpr, ScopedExprs, ScopedArgs, ScopedStmt, ScopedAll, expr_size, exprs_size, args_size, stmt_size, all_size}
use Rattle.core_codegen.specs.Room.{expr_room, exprs_room, args_room, stmt_room, all_room, temps, all_temps}
use Rattle.core_codegen.specs.Slots.{scope_of}
use Rattle.core_codegen.proofs.Emitting.{operands_step, operands_end, held_operand, held_code, made_operand, made_code, passed_uniform, passing_step, passing_end, running_step, running_end, scope_ends, all_slack, length_formals, length_after_all}
use Rattle.core_codegen.proofs.Emitted.{apply_at, apply_code, differ_code, sum_code, look_at, look_code, call_at, call_code, declare_code, assign_code, test_code, repeat_code, lights_code, class_of, classes_of, both_of, assigned_class}
use Rattle.core_codegen.proofs.emission.+emission.Goals as goal
use Rattle.core_codegen.proofs.emission.+emission.Goals.{expressions-in-Some, expressions-in-None+in_ok-from-in-None}

pub expressions-loop-e-preserved : goal.expressions-loop-e-preserved
expressions-loop-e-preserved t c =
    let e = expr_of c.e-item.result in
    let ss = scope_of c.args.scope.now in
    let base = c.args.base in
    let target = c.loop-e.target in
    elim c.match-variable_of.branch [
      | expressions-in-Some w ↦ operands_step _ _ _ _ _ _ _ _ _ c.e-item.result c.loop-e.invariant (omega arith) c.e-item.is c.match-variable_of.from _ _ (w.from-is ∙ held_operand e ss base target w.in-Some.k w.register_of-from.result w.in-Some.ensures w.register_of-from.ensures)
          (ap (λ v. block_of v.items) w.code-is ∙ held_code e ss base target w.in-Some.k (block_of c.loop-e.code.items) w.in-Some.ensures) c.in_ok-push.ensures.items
      | expressions-in-None+in_ok-from-in-None w ↦ operands_step _ _ _ _ _ _ _ _ _ c.e-item.result c.loop-e.invariant (omega arith) c.e-item.is c.match-variable_of.from _ _ (w.from-is ∙ made_operand e ss base target w.in_ok-from-in-None.from w.in-None.ensures w.in_ok-from-in-None.ensures.at)
          (ap (λ v. block_of v.items) w.code-is ∙ made_code e ss base target (block_of c.loop-e.code.items) (block_of w.expression.new.code.items) w.in-None.ensures w.in_ok-from-in-None.ensures.code) c.in_ok-push.ensures.items
    ]

pub expressions-returns-clause-code : goal.expressions-returns-clause-code
expressions-returns-clause-code t c = (operands_end _ _ _ _ _ _ _ _ _ c.loop-e.invariant (omega arith)).1

pub arguments-loop-argument-preserved : goal.arguments-loop-argument-preserved
arguments-loop-argument-preserved t c =
    passing_step _ _ _ _ _ _ _ _ _ _ _ c.argument-item.result c.loop-argument.invariant (omega arith) c.argument-item.is
    c.in_ok-from.from (reg c.argument-item.result.uniform (shape_of c.argument-item.result.kind) c.loop-argument.target) _ _ _ (register_class c.in_ok-from.from) c.in_ok-u.u _
    c.in_ok-from.ensures.at c.in_ok-from.ensures.code refl
    c.in_ok-u.ensures.code c.in_ok-u.ensures.scope refl c.in_ok-u.ensures.class c.both-uniform.ensures

pub arguments-returns-clause-code : goal.arguments-returns-clause-code
arguments-returns-clause-code t c = (passing_end _ _ _ _ _ _ _ _ _ _ _ c.loop-argument.invariant (omega arith)).1.1

pub statements-loop-s-preserved : goal.statements-loop-s-preserved
statements-loop-s-preserved t c =
    running_step _ _ _ _ _ _ _ _ _ c.s-item.result c.loop-s.invariant (omega arith) c.s-item.is _ _ c.in_ok-u.u _
    c.in_ok-u.ensures.class c.in_ok-u.ensures.scope c.in_ok-u.ensures.code c.both-uniform.ensures

pub statements-returns-clause-code : goal.statements-returns-clause-code
statements-returns-clause-code t c = (running_end _ _ _ _ _ _ _ _ _ c.loop-s.invariant (omega arith)).1.1

pub block-returns-clause-scope : goal.block-returns-clause-scope
block-returns-clause-scope t c =
    scope_ends (stmts_of c.args.all.now) (scope_of c.args.scope.now) (scope_of c.statements.new.scope) (scope_of c.cut.new.self) c.depth-depth.result
    c.depth-depth.ensures c.in_ok-uniform.ensures.scope c.cut.ensures

pub expression-expressions-requires : goal.expression-expressions-requires
expression-expressions-requires t c =
    let ss = scope_of c.args.scope.now in
    let q = apply_shown c.args.e.now c.in-Apply.op c.in-Apply.args c.in-Apply.is in
    let s = subst (λ x. ScopedExpr x ss) q c.requires.scoped in
    let z = ap expr_size q in
    let zr = ap expr_room q in
    let d = c.as_slice.ensures in
    let dr = ap (λ l. exprs_room (exprs_of l)) d in
    let dz = ap (λ l. exprs_size (exprs_of l)) d in
    (omega (arith, c.decreases), (subst (λ l. ScopedExprs (exprs_of l) ss) (sym d) s, (c.requires.frame, omega arith)))

pub expression-expressions-requires-in-Sum : goal.expression-expressions-requires-in-Sum
expression-expressions-requires-in-Sum t c =
    let ss = scope_of c.args.scope.now in
    let q = sum_shown c.args.e.now c.in-Sum.over c.in-Sum.args c.in-Sum.is in
    let s = subst (λ x. ScopedExpr x ss) q c.requires.scoped in
    let z = ap expr_size q in
    let zr = ap expr_room q in
    let d = c.as_slice-in-Sum.ensures in
    let dr = ap (λ l. exprs_room (exprs_of l)) d in
    let dz = ap (λ l. exprs_size (exprs_of l)) d in
    (omega (arith, c.decreases), (subst (λ l. ScopedExprs (exprs_of l) ss) (sym d) s, (c.requires.frame, omega arith)))

pub expression-expressions-requires-in-Texture : goal.expression-expressions-requires-in-Texture
expression-expressions-requires-in-Texture t c =
    let ss = scope_of c.args.scope.now in
    let q = texture_shown c.args.e.now c.in-Texture.node c.in-Texture.args c.in-Texture.is in
    let s = subst (λ x. ScopedExpr x ss) q c.requires.scoped in
    let z = ap expr_size q in
    let zr = ap expr_room q in
    let d = c.as_slice-in-Texture.ensures in
    let dr = ap (λ l. exprs_room (exprs_of l)) d in
    let dz = ap (λ l. exprs_size (exprs_of l)) d in
    (omega (arith, c.decreases), (subst (λ l. ScopedExprs (exprs_of l) ss) (sym d) s, (c.requires.frame, omega arith)))

pub expression-arguments-requires : goal.expression-arguments-requires
expression-arguments-requires t c =
    let ss = scope_of c.args.scope.now in
    let q = call_shown c.args.e.now c.in-Call.args c.in-Call.body c.in-Call.kind c.in-Call.value c.in-Call.is in
    let s = subst (λ x. ScopedExpr x ss) q c.requires.scoped in
    let z = ap expr_size q in
    let zr = ap expr_room q in
    let d = c.as_slice-in-Call.ensures in
    let dr = ap (λ l. args_room (args_of l)) d in
    let dz = ap (λ l. args_size (args_of l)) d in
    (omega (arith, c.decreases), (subst (λ l. ScopedArgs (args_of l) ss) (sym d) s.0, (c.requires.frame, omega arith)))

pub expression-statements-requires : goal.expression-statements-requires
expression-statements-requires t c =
    let ss = scope_of c.args.scope.now in
    let q = call_shown c.args.e.now c.in-Call.args c.in-Call.body c.in-Call.kind c.in-Call.value c.in-Call.is in
    let s = subst (λ x. ScopedExpr x ss) q c.requires.scoped in
    let z = ap expr_size q in
    let zr = ap expr_room q in
    let inner = scope_of c.arguments.new.inner in
    let k : inner ≡ formals (args_of c.in-Call.args) = c.in_ok-passed-in-Call.ensures.formals ∙ ap (λ l. l ++ formals (args_of c.as_slice-in-Call.result.now)) c.new-inner.ensures ∙ ap (λ l. formals (args_of l)) c.as_slice-in-Call.ensures in
    let kz = ap length k in
    let d = c.as_slice-body.ensures in
    let dr = ap (λ l. all_room (stmts_of l)) d in
    let dz = ap (λ l. all_size (stmts_of l)) d in
    let dl = ap (λ l. all_locals (stmts_of l)) d in
    let dt = ap (λ l. all_temps (stmts_of l)) d in (
      omega (arith, c.decreases),
      (subst (λ l. ScopedAll (stmts_of l) inner) (sym d) (subst (λ l. ScopedAll (stmts_of c.in-Call.body) l) (sym k) s.1.0), (omega (arith, length_formals (args_of c.in-Call.args)), (let tz = c.first_behind-temps.ensures in omega arith, let tz = c.first_behind-temps.ensures in omega (arith, length_formals (args_of c.in-Call.args), all_slack (stmts_of c.in-Call.body))))),
    )

pub expression-first_behind-temps-requires : goal.expression-first_behind-temps-requires
expression-first_behind-temps-requires t c =
    let q = call_shown c.args.e.now c.in-Call.args c.in-Call.body c.in-Call.kind c.in-Call.value c.in-Call.is in
    let z = ap expr_size q in
    let zr = ap expr_room q in
    let inner = scope_of c.arguments.new.inner in
    let k : inner ≡ formals (args_of c.in-Call.args) = c.in_ok-passed-in-Call.ensures.formals ∙ ap (λ l. l ++ formals (args_of c.as_slice-in-Call.result.now)) c.new-inner.ensures ∙ ap (λ l. formals (args_of l)) c.as_slice-in-Call.ensures in
    let kz = ap length k in
    let dl = ap (λ l. all_locals (stmts_of l)) c.as_slice-body.ensures in
    let fits = c.requires.fits in
    record { fits = omega (arith, length_formals (args_of c.in-Call.args), all_slack (stmts_of c.in-Call.body)) }

pub expression-end-end-requires : goal.expression-end-end-requires
expression-end-end-requires t c =
    let q = call_shown c.args.e.now c.in-Call.args c.in-Call.body c.in-Call.kind c.in-Call.value c.in-Call.is in
    let z = ap expr_size q in
    let zr = ap expr_room q in
    let k : scope_of c.arguments.new.inner ≡ formals (args_of c.in-Call.args) = c.in_ok-passed-in-Call.ensures.formals ∙ ap (λ l. l ++ formals (args_of c.as_slice-in-Call.result.now)) c.new-inner.ensures ∙ ap (λ l. formals (args_of l)) c.as_slice-in-Call.ensures in
    let k2 : scope_of c.statements.new.scope ≡ after_all (stmts_of c.in-Call.body) (formals (args_of c.in-Call.args)) =
    c.in_ok-ran-in-Call.ensures.scope ∙ ap (λ l. after_all (stmts_of l) (scope_of c.arguments.new.inner)) c.as_slice-body.ensures ∙ ap (after_all (stmts_of c.in-Call.body)) k in
    let z2 = ap length k2 in
    let fits = c.requires.fits in
    let l1 = length_formals (args_of c.in-Call.args) in
    let l2 = length_after_all (stmts_of c.in-Call.body) (formals (args_of c.in-Call.args)) in
    record { fits = omega arith }

pub expression-expression-requires-in-Call : goal.expression-expression-requires-in-Call
expression-expression-requires-in-Call t c =
    let ss = scope_of c.args.scope.now in
    let q = call_shown c.args.e.now c.in-Call.args c.in-Call.body c.in-Call.kind c.in-Call.value c.in-Call.is in
    let s = subst (λ x. ScopedExpr x ss) q c.requires.scoped in
    let z = ap expr_size q in
    let zr = ap expr_room q in
    let inner = scope_of c.statements.new.scope in
    let k : scope_of c.arguments.new.inner ≡ formals (args_of c.in-Call.args) = c.in_ok-passed-in-Call.ensures.formals ∙ ap (λ l. l ++ formals (args_of c.as_slice-in-Call.result.now)) c.new-inner.ensures ∙ ap (λ l. formals (args_of l)) c.as_slice-in-Call.ensures in
    let k2 : inner ≡ after_all (stmts_of c.in-Call.body) (formals (args_of c.in-Call.args)) =
    c.in_ok-ran-in-Call.ensures.scope ∙ ap (λ l. after_all (stmts_of l) (scope_of c.arguments.new.inner)) c.as_slice-body.ensures ∙ ap (after_all (stmts_of c.in-Call.body)) k in
    let z2 = ap length k2 in
    let d = c.deref-in-Call.ensures in
    let dz = ap (λ x. expr_size (expr_of x)) d in
    let dr = ap (λ x. expr_room (expr_of x)) d in
    let stop = c.end-end.ensures in
    let fits = c.requires.fits in
    let l1 = length_formals (args_of c.in-Call.args) in
    let l2 = length_after_all (stmts_of c.in-Call.body) (formals (args_of c.in-Call.args)) in (
      omega (arith, c.decreases),
      (subst (λ x. ScopedExpr (expr_of x) inner) (sym d) (subst (λ l. ScopedExpr (expr_of c.in-Call.value.value) l) (sym k2) s.1.1), (omega arith, omega arith)),
    )

pub expression-returns-in_ok-operands-in-Apply-clause-at : goal.expression-returns-in_ok-operands-in-Apply-clause-at
expression-returns-in_ok-operands-in-Apply-clause-at t c =
    let ss = scope_of c.args.scope.now in
    let next = c.args.next in
    IfOk-weaker c.apply.result (λ q. q ≡ applied_at c.in-Apply.op c.in_ok-operands-in-Apply.operands.items next) (λ q. q ≡ at (expr_of c.args.e.now) ss next)
    (λ q h. apply_at ss c.args.base next c.in-Apply.op (exprs_of c.in-Apply.args) c.in_ok-operands-in-Apply.operands.items q
    (c.in_ok-operands-in-Apply.ensures.at ∙ ap (λ l. all_at (exprs_of l) ss c.args.base next) c.as_slice.ensures) h
    ∙ ap (λ x. at x ss next) (sym (apply_shown c.args.e.now c.in-Apply.op c.in-Apply.args c.in-Apply.is)))
    c.apply.ensures.at

pub expression-returns-in_ok-operands-in-Apply-clause-code : goal.expression-returns-in_ok-operands-in-Apply-clause-code
expression-returns-in_ok-operands-in-Apply-clause-code t c =
    let ss = scope_of c.args.scope.now in
    let next = c.args.next in
    let o = block_of c.args.code.now.items in
    on_ok_weaker c.apply.result
    (λ h. apply_code ss c.args.base next c.in-Apply.op (exprs_of c.in-Apply.args) c.in_ok-operands-in-Apply.operands.items o _ _
    (c.in_ok-operands-in-Apply.ensures.code ∙ ap (λ l. o then exprs_code (exprs_of l) ss c.args.base next) c.as_slice.ensures)
    (c.in_ok-operands-in-Apply.ensures.at ∙ ap (λ l. all_at (exprs_of l) ss c.args.base next) c.as_slice.ensures) h
    ∙ ap (λ x. o then expr_code x ss c.args.base next) (sym (apply_shown c.args.e.now c.in-Apply.op c.in-Apply.args c.in-Apply.is)))
    c.apply.ensures.code

pub expression-returns-in_ok-of-in-Differ-clause-code : goal.expression-returns-in_ok-of-in-Differ-clause-code
expression-returns-in_ok-of-in-Differ-clause-code t c =
    let ss = scope_of c.args.scope.now in
    let next = c.args.next in
    let o = block_of c.args.code.now.items in
    on_ok_weaker c.differ.result
    (λ h. differ_code ss c.args.base next c.in-Differ.difference (expr_of c.in-Differ.operand.value) c.in_ok-of-in-Differ.of o _ _
    (c.in_ok-of-in-Differ.ensures.code ∙ ap (λ x. o then expr_code (expr_of x) ss c.args.base next) c.deref.ensures)
    (c.in_ok-of-in-Differ.ensures.at ∙ ap (λ x. at (expr_of x) ss next) c.deref.ensures) h
    ∙ ap (λ x. o then expr_code (expr_of x) ss c.args.base next) (sym c.in-Differ.is))
    c.differ.ensures.code

pub expression-returns-in_ok-operands-in-Sum-clause-code : goal.expression-returns-in_ok-operands-in-Sum-clause-code
expression-returns-in_ok-operands-in-Sum-clause-code t c =
    let ss = scope_of c.args.scope.now in
    let next = c.args.next in
    let o = block_of c.args.code.now.items in
    on_ok_weaker c.sum.result
    (λ h. sum_code ss c.args.base next c.in-Sum.over (exprs_of c.in-Sum.args) c.in_ok-operands-in-Sum.operands.items o _ _
    (c.in_ok-operands-in-Sum.ensures.code ∙ ap (λ l. o then exprs_code (exprs_of l) ss c.args.base next) c.as_slice-in-Sum.ensures)
    (c.in_ok-operands-in-Sum.ensures.at ∙ ap (λ l. all_at (exprs_of l) ss c.args.base next) c.as_slice-in-Sum.ensures) h
    ∙ ap (λ x. o then expr_code x ss c.args.base next) (sym (sum_shown c.args.e.now c.in-Sum.over c.in-Sum.args c.in-Sum.is)))
    c.sum.ensures.code

pub expression-returns-in_ok-from-in-Call-clause-at : goal.expression-returns-in_ok-from-in-Call-clause-at
expression-returns-in_ok-from-in-Call-clause-at t c =
    let ss = scope_of c.args.scope.now in
    let next = c.args.next in
    let inner = scope_of c.arguments.new.inner in
    let inner2 = scope_of c.statements.new.scope in
    IfOk-weaker c.returned.result (λ q. q ≡ c.register-to.result) (λ q. q ≡ at (expr_of c.args.e.now) ss next)
    (λ q h. h ∙ (call_at (args_of c.in-Call.args) (stmts_of c.in-Call.body) c.in-Call.kind (expr_of c.in-Call.value.value) ss inner inner2 c.args.base next c.end-end.result c.in_ok-from-in-Call.from c.register-to.result
    (c.in_ok-passed-in-Call.ensures.formals ∙ ap (λ l. l ++ formals (args_of c.as_slice-in-Call.result.now)) c.new-inner.ensures ∙ ap (λ l. formals (args_of l)) c.as_slice-in-Call.ensures)
    (c.in_ok-ran-in-Call.ensures.scope ∙ ap (λ l. after_all (stmts_of l) inner) c.as_slice-body.ensures)
    (c.in_ok-from-in-Call.ensures.at ∙ ap (λ x. at (expr_of x) inner2 c.end-end.result) c.deref-in-Call.ensures)
    c.in_ok-passed-in-Call.passed c.in_ok-ran-in-Call.ran c.is_uniform.result c.both.result c.both-uniform.result
    (c.in_ok-passed-in-Call.ensures.class ∙ ap (λ l. passed_uniform (args_of l) ss) c.as_slice-in-Call.ensures)
    (c.in_ok-ran-in-Call.ensures.class ∙ ap (λ l. stmts_uniform (stmts_of l) inner) c.as_slice-body.ensures)
    c.is_uniform.ensures c.both.ensures c.both-uniform.ensures
    (c.register-to.ensures ∙ ap (λ s. reg c.both-uniform.result s next) c.shape_of.ensures)
    ∙ ap (λ x. at x ss next) (sym (call_shown c.args.e.now c.in-Call.args c.in-Call.body c.in-Call.kind c.in-Call.value c.in-Call.is))))
    c.returned.ensures.at

pub expression-returns-in_ok-from-in-Call-clause-code : goal.expression-returns-in_ok-from-in-Call-clause-code
expression-returns-in_ok-from-in-Call-clause-code t c =
    let ss = scope_of c.args.scope.now in
    let base = c.args.base in
    let next = c.args.next in
    let o = block_of c.args.code.now.items in
    let inner = scope_of c.arguments.new.inner in
    let inner2 = scope_of c.statements.new.scope in
    let a = args_of c.in-Call.args in
    let b = stmts_of c.in-Call.body in
    let x = expr_of c.in-Call.value.value in
    let h1 = c.in_ok-passed-in-Call.ensures.formals ∙ ap (λ l. l ++ formals (args_of c.as_slice-in-Call.result.now)) c.new-inner.ensures ∙ ap (λ l. formals (args_of l)) c.as_slice-in-Call.ensures in
    let h2 = c.in_ok-ran-in-Call.ensures.scope ∙ ap (λ l. after_all (stmts_of l) inner) c.as_slice-body.ensures in
    let hf = c.in_ok-from-in-Call.ensures.at ∙ ap (λ y. at (expr_of y) inner2 c.end-end.result) c.deref-in-Call.ensures in
    on_ok_weaker c.returned.result
    (λ h. call_code a b c.in-Call.kind x ss inner inner2 base next c.end-end.result c.in_ok-from-in-Call.from c.register-to.result h1 h2 hf o
    (block_of c.arguments.new.code.items) (block_of c.statements.new.code.items) _ _ c.first_behind-temps.result (c.first_behind-temps.ensures ∙ ap (λ l. behind inner next (stmts_of l)) c.as_slice-body.ensures)
    (c.in_ok-passed-in-Call.ensures.code ∙ ap (λ l. o then args_code (args_of l) ss base next) c.as_slice-in-Call.ensures)
    (c.in_ok-ran-in-Call.ensures.code ∙ ap (λ l. block_of c.arguments.new.code.items then all_code (stmts_of l) inner next c.first_behind-temps.result) c.as_slice-body.ensures)
    c.end-end.ensures
    (c.in_ok-from-in-Call.ensures.code ∙ ap (λ y. block_of c.statements.new.code.items then expr_code (expr_of y) inner2 next c.end-end.result) c.deref-in-Call.ensures)
    (call_at a b c.in-Call.kind x ss inner inner2 base next c.end-end.result c.in_ok-from-in-Call.from c.register-to.result h1 h2 hf
    c.in_ok-passed-in-Call.passed c.in_ok-ran-in-Call.ran c.is_uniform.result c.both.result c.both-uniform.result
    (c.in_ok-passed-in-Call.ensures.class ∙ ap (λ l. passed_uniform (args_of l) ss) c.as_slice-in-Call.ensures)
    (c.in_ok-ran-in-Call.ensures.class ∙ ap (λ l. stmts_uniform (stmts_of l) inner) c.as_slice-body.ensures)
    c.is_uniform.ensures c.both.ensures c.both-uniform.ensures
    (c.register-to.ensures ∙ ap (λ s. reg c.both-uniform.result s next) c.shape_of.ensures))
    h
    ∙ ap (λ y. o then expr_code y ss base next) (sym (call_shown c.args.e.now c.in-Call.args c.in-Call.body c.in-Call.kind c.in-Call.value c.in-Call.is)))
    c.returned.ensures.code

pub statement-block-requires : goal.statement-block-requires
statement-block-requires t c =
    let ss = scope_of c.args.scope.now in
    let q = block_shown c.args.s.now c.in-Block.body c.in-Block.is in
    let s = subst (λ x. ScopedStmt x ss) q c.requires.scoped in
    let z = ap stmt_size q in
    let zr = ap stmt_room q in
    let zl = ap locals q in
    let zt = ap temps q in
    let d = c.as_slice.ensures in
    let dr = ap (λ l. all_room (stmts_of l)) d in
    let dz = ap (λ l. all_size (stmts_of l)) d in
    let dl = ap (λ l. all_locals (stmts_of l)) d in
    let dt = ap (λ l. all_temps (stmts_of l)) d in
    (omega (arith, c.decreases), (subst (λ l. ScopedAll (stmts_of l) ss) (sym d) s, (omega arith, (omega arith, omega arith))))

pub statement-block-requires-in-Test : goal.statement-block-requires-in-Test
statement-block-requires-in-Test t c =
    let ss = scope_of c.args.scope.now in
    let q = test_shown c.args.s.now c.in-Test.test c.in-Test.then c.in-Test.otherwise c.in-Test.is in
    let s = subst (λ x. ScopedStmt x ss) q c.requires.scoped in
    let z = ap stmt_size q in
    let zr = ap stmt_room q in
    let zl = ap locals q in
    let zt = ap temps q in
    let d = c.as_slice-in-Test.ensures in
    let dr = ap (λ l. all_room (stmts_of l)) d in
    let dz = ap (λ l. all_size (stmts_of l)) d in
    let dl = ap (λ l. all_locals (stmts_of l)) d in
    let dt = ap (λ l. all_temps (stmts_of l)) d in
    (omega (arith, c.decreases), (subst (λ l. ScopedAll (stmts_of l) ss) (sym d) s.1.0, (omega arith, (omega arith, omega arith))))

pub statement-block-requires-in-Test-2 : goal.statement-block-requires-in-Test-2
statement-block-requires-in-Test-2 t c =
    let ss = scope_of c.args.scope.now in
    let ss1 = scope_of c.block-in-Test.new.scope in
    let q = test_shown c.args.s.now c.in-Test.test c.in-Test.then c.in-Test.otherwise c.in-Test.is in
    let s = subst (λ x. ScopedStmt x ss) q c.requires.scoped in
    let z = ap stmt_size q in
    let zr = ap stmt_room q in
    let zl = ap locals q in
    let zt = ap temps q in
    let k = c.in_ok-a-in-Test.ensures.scope in
    let kz = ap length k in
    let d = c.as_slice-in-Test-2.ensures in
    let dr = ap (λ l. all_room (stmts_of l)) d in
    let dz = ap (λ l. all_size (stmts_of l)) d in
    let dl = ap (λ l. all_locals (stmts_of l)) d in
    let dt = ap (λ l. all_temps (stmts_of l)) d in
    (omega (arith, c.decreases), (subst (λ l. ScopedAll (stmts_of l) ss1) (sym d) (subst (λ l. ScopedAll (stmts_of c.in-Test.otherwise) l) (sym k) s.1.1), (omega arith, (omega arith, omega arith))))

pub statement-repeat-requires : goal.statement-repeat-requires
statement-repeat-requires t c =
    let ss = scope_of c.args.scope.now in
    let q = repeat_shown c.args.s.now c.in-Repeat.repeated c.in-Repeat.is in
    let z = ap stmt_size q in
    let zr = ap stmt_room q in
    let zl = ap locals q in
    let zt = ap temps q in
    (omega (arith, c.decreases), (subst (λ x. ScopedStmt x ss) q c.requires.scoped, (omega arith, (omega arith, omega arith))))

pub statement-expressions-requires : goal.statement-expressions-requires
statement-expressions-requires t c =
    let ss = scope_of c.args.scope.now in
    let q = lights_shown c.args.s.now c.in-Lights.word c.in-Lights.args c.in-Lights.body c.in-Lights.is in
    let s = subst (λ x. ScopedStmt x ss) q c.requires.scoped in
    let z = ap stmt_size q in
    let zr = ap stmt_room q in
    let zl = ap locals q in
    let zt = ap temps q in
    let n = c.end-next.ensures in
    let d = c.as_slice-in-Lights.ensures in
    let dr = ap (λ l. exprs_room (exprs_of l)) d in
    let dz = ap (λ l. exprs_size (exprs_of l)) d in
    (omega (arith, c.decreases), (subst (λ l. ScopedExprs (exprs_of l) ss) (sym d) s.0, (omega arith, omega arith)))

pub statement-block-requires-in-Lights : goal.statement-block-requires-in-Lights
statement-block-requires-in-Lights t c =
    let ss = scope_of c.args.scope.now in
    let q = lights_shown c.args.s.now c.in-Lights.word c.in-Lights.args c.in-Lights.body c.in-Lights.is in
    let s = subst (λ x. ScopedStmt x ss) q c.requires.scoped in
    let z = ap stmt_size q in
    let zr = ap stmt_room q in
    let zl = ap locals q in
    let zt = ap temps q in
    let d = c.as_slice-in-Lights-2.ensures in
    let dr = ap (λ l. all_room (stmts_of l)) d in
    let dz = ap (λ l. all_size (stmts_of l)) d in
    let dl = ap (λ l. all_locals (stmts_of l)) d in
    let dt = ap (λ l. all_temps (stmts_of l)) d in
    (omega (arith, c.decreases), (subst (λ l. ScopedAll (stmts_of l) ss) (sym d) s.1, (omega arith, (omega arith, omega arith))))

pub statement-returns-in_ok-from-in-Declare-clause-class : goal.statement-returns-in_ok-from-in-Declare-clause-class
statement-returns-in_ok-from-in-Declare-clause-class t c =
    let ss = scope_of c.args.scope.now in
    IfOk-weaker c.begun.result (λ u. u ≡ c.in-Declare.uniform && register_class c.in_ok-from-in-Declare.from) (λ u. u ≡ stmt_uniform (stmt_of c.args.s.now) ss)
    (λ u h. both_of _ _ _ _ _ h refl (class_of (expr_of c.in-Declare.e) ss c.end-next.result c.in_ok-from-in-Declare.from _ c.in_ok-from-in-Declare.ensures.at refl)
    ∙ ap (λ x. stmt_uniform (stmt_of x) ss) (sym c.in-Declare.is))
    c.begun.ensures.class

pub statement-returns-in_ok-from-in-Assign-clause-class : goal.statement-returns-in_ok-from-in-Assign-clause-class
statement-returns-in_ok-from-in-Assign-clause-class t c =
    let ss = scope_of c.args.scope.now in
    IfOk-weaker c.assigned.result (λ u. u ≡ register_class c.register_of-to.result && register_class c.in_ok-from-in-Assign.from) (λ u. u ≡ stmt_uniform (stmt_of c.args.s.now) ss)
    (λ u h. both_of _ _ _ _ _ h (assigned_class c.in-Assign.variable ss c.args.base c.register_of-to.result _ c.register_of-to.ensures refl)
    (class_of (expr_of c.in-Assign.e) ss c.args.temps c.in_ok-from-in-Assign.from _ c.in_ok-from-in-Assign.ensures.at refl)
    ∙ ap (λ x. stmt_uniform (stmt_of x) ss) (sym c.in-Assign.is))
    c.assigned.ensures.class

pub statement-returns-in_ok-from-in-Declare-clause-code : goal.statement-returns-in_ok-from-in-Declare-clause-code
statement-returns-in_ok-from-in-Declare-clause-code t c =
    let ss = scope_of c.args.scope.now in
    let o = block_of c.args.code.now.items in
    on_ok_weaker c.begun.result
    (λ h. declare_code ss c.args.base c.end-next.result c.args.temps c.end-next.ensures c.in-Declare.uniform c.in-Declare.kind (expr_of c.in-Declare.e) c.in_ok-from-in-Declare.from (reg c.in-Declare.uniform (shape_of c.in-Declare.kind) c.end-next.result) o _ _
    c.in_ok-from-in-Declare.ensures.code c.in_ok-from-in-Declare.ensures.at refl h
    ∙ ap (λ x. o then stmt_code (stmt_of x) ss c.args.base c.args.temps) (sym c.in-Declare.is))
    c.begun.ensures.code

pub statement-returns-in_ok-from-in-Assign-clause-code : goal.statement-returns-in_ok-from-in-Assign-clause-code
statement-returns-in_ok-from-in-Assign-clause-code t c =
    let ss = scope_of c.args.scope.now in
    let o = block_of c.args.code.now.items in
    on_ok_weaker c.assigned.result
    (λ h. assign_code ss c.args.base c.end-next.result c.args.temps c.end-next.ensures c.in-Assign.variable c.in-Assign.kind (expr_of c.in-Assign.e) c.in_ok-from-in-Assign.from c.register_of-to.result o _ _
    c.in_ok-from-in-Assign.ensures.code c.in_ok-from-in-Assign.ensures.at c.register_of-to.ensures h
    ∙ ap (λ x. o then stmt_code (stmt_of x) ss c.args.base c.args.temps) (sym c.in-Assign.is))
    c.assigned.ensures.code

pub statement-returns-in-Block-clause-class : goal.statement-returns-in-Block-clause-class
statement-returns-in-Block-clause-class t c =
    let ss = scope_of c.args.scope.now in
    IfOk-weaker c.block.result (λ u. u ≡ stmts_uniform (stmts_of c.as_slice.result.now) ss) (λ u. u ≡ stmt_uniform (stmt_of c.args.s.now) ss)
    (λ u h. h ∙ ap (λ l. stmts_uniform (stmts_of l) ss) c.as_slice.ensures ∙ ap (λ x. stmt_uniform x ss) (sym (block_shown c.args.s.now c.in-Block.body c.in-Block.is)))
    c.block.ensures.class

pub statement-returns-in-Block-clause-code : goal.statement-returns-in-Block-clause-code
statement-returns-in-Block-clause-code t c =
    let ss = scope_of c.args.scope.now in
    let o = block_of c.args.code.now.items in
    on_ok_weaker c.block.result
    (λ h. h ∙ ap (λ l. o then all_code (stmts_of l) ss c.args.base c.args.temps) c.as_slice.ensures
    ∙ ap (λ x. o then stmt_code x ss c.args.base c.args.temps) (sym (block_shown c.args.s.now c.in-Block.body c.in-Block.is)))
    c.block.ensures.code

pub statement-returns-in_ok-b-in-Test-clause-class : goal.statement-returns-in_ok-b-in-Test-clause-class
statement-returns-in_ok-b-in-Test-clause-class t c =
    let ss = scope_of c.args.scope.now in
    let ss1 = scope_of c.block-in-Test.new.scope in
    IfOk-weaker c.branched.result (λ u. u ≡ register_class c.in_ok-asked-in-Test.asked && c.both.result) (λ u. u ≡ stmt_uniform (stmt_of c.args.s.now) ss)
    (λ u h. both_of _ _ _ _ _ h
    (class_of (expr_of c.in-Test.test) ss c.end-next.result c.in_ok-asked-in-Test.asked _ c.in_ok-asked-in-Test.ensures.at refl)
    (both_of _ _ _ _ _ c.both.ensures
    (c.in_ok-a-in-Test.ensures.class ∙ ap (λ l. stmts_uniform (stmts_of l) ss) c.as_slice-in-Test.ensures)
    (c.in_ok-b-in-Test.ensures.class ∙ ap (λ l. stmts_uniform (stmts_of l) ss1) c.as_slice-in-Test-2.ensures ∙ ap (stmts_uniform (stmts_of c.in-Test.otherwise)) c.in_ok-a-in-Test.ensures.scope))
    ∙ ap (λ x. stmt_uniform x ss) (sym (test_shown c.args.s.now c.in-Test.test c.in-Test.then c.in-Test.otherwise c.in-Test.is)))
    c.branched.ensures.class

pub statement-returns-in_ok-b-in-Test-clause-code : goal.statement-returns-in_ok-b-in-Test-clause-code
statement-returns-in_ok-b-in-Test-clause-code t c =
    let ss = scope_of c.args.scope.now in
    let ss1 = scope_of c.block-in-Test.new.scope in
    let base = c.args.base in
    let o = block_of c.args.code.now.items in
    on_ok_weaker c.branched.result
    (λ h. test_code ss base c.end-next.result c.args.temps c.end-next.ensures (expr_of c.in-Test.test) (stmts_of c.in-Test.then) (stmts_of c.in-Test.otherwise) c.in_ok-asked-in-Test.asked ss1 o _ _
    (block_of c.new-one.result.items) _ (block_of c.new-other.result.items) _
    c.in_ok-asked-in-Test.ensures.code c.in_ok-asked-in-Test.ensures.at
    (ap block_of c.new-one.ensures.items) (c.in_ok-a-in-Test.ensures.code ∙ ap (λ l. block_of c.new-one.result.items then all_code (stmts_of l) ss base c.args.temps) c.as_slice-in-Test.ensures)
    c.in_ok-a-in-Test.ensures.scope
    (ap block_of c.new-other.ensures.items) (c.in_ok-b-in-Test.ensures.code ∙ ap (λ l. block_of c.new-other.result.items then all_code (stmts_of l) ss1 base c.args.temps) c.as_slice-in-Test-2.ensures)
    h
    ∙ ap (λ x. o then stmt_code x ss base c.args.temps) (sym (test_shown c.args.s.now c.in-Test.test c.in-Test.then c.in-Test.otherwise c.in-Test.is)))
    c.branched.ensures.code

pub statement-returns-in-Repeat-clause-class : goal.statement-returns-in-Repeat-clause-class
statement-returns-in-Repeat-clause-class t c =
    let ss = scope_of c.args.scope.now in
    IfOk-weaker c.repeat.result (λ u. u ≡ stmt_uniform (loop_of c.in-Repeat.repeated) ss) (λ u. u ≡ stmt_uniform (stmt_of c.args.s.now) ss)
    (λ u h. h ∙ ap (λ x. stmt_uniform x ss) (sym (repeat_shown c.args.s.now c.in-Repeat.repeated c.in-Repeat.is)))
    c.repeat.ensures.class

pub statement-returns-in-Repeat-clause-code : goal.statement-returns-in-Repeat-clause-code
statement-returns-in-Repeat-clause-code t c =
    on_ok_weaker c.repeat.result
    (λ h. h ∙ ap (λ x. block_of c.args.code.now.items then stmt_code x (scope_of c.args.scope.now) c.args.base c.args.temps) (sym (repeat_shown c.args.s.now c.in-Repeat.repeated c.in-Repeat.is)))
    c.repeat.ensures.code

pub statement-returns-in_ok-b-in-Lights-clause-class : goal.statement-returns-in_ok-b-in-Lights-clause-class
statement-returns-in_ok-b-in-Lights-clause-class t c =
    let ss = scope_of c.args.scope.now in
    let args = exprs_of c.in-Lights.args in
    let hq = c.in_ok-operands-in-Lights.ensures.at ∙ ap (λ l. all_at (exprs_of l) ss c.args.base c.end-next.result) c.as_slice-in-Lights.ensures in
    IfOk-weaker c.lit.result (λ u. u ≡ are_uniform_registers c.in_ok-operands-in-Lights.operands.items && c.in_ok-b-in-Lights.b) (λ u. u ≡ stmt_uniform (stmt_of c.args.s.now) ss)
    (λ u h. both_of _ _ _ _ _ h
    (classes_of args ss c.args.base c.end-next.result c.in_ok-operands-in-Lights.operands.items _ hq refl)
    (c.in_ok-b-in-Lights.ensures.class ∙ ap (λ l. stmts_uniform (stmts_of l) ss) c.as_slice-in-Lights-2.ensures)
    ∙ ap (λ x. stmt_uniform x ss) (sym (lights_shown c.args.s.now c.in-Lights.word c.in-Lights.args c.in-Lights.body c.in-Lights.is)))
    c.lit.ensures.class

pub statement-returns-in_ok-b-in-Lights-clause-code : goal.statement-returns-in_ok-b-in-Lights-clause-code
statement-returns-in_ok-b-in-Lights-clause-code t c =
    let ss = scope_of c.args.scope.now in
    let base = c.args.base in
    let next = c.end-next.result in
    let o = block_of c.args.code.now.items in
    on_ok_weaker c.lit.result
    (λ h. lights_code ss base next c.args.temps c.end-next.ensures c.in-Lights.word (exprs_of c.in-Lights.args) (stmts_of c.in-Lights.body) c.in_ok-operands-in-Lights.operands.items o _ _
    (block_of c.new-inside.result.items) _
    (c.in_ok-operands-in-Lights.ensures.code ∙ ap (λ l. o then exprs_code (exprs_of l) ss base next) c.as_slice-in-Lights.ensures)
    (c.in_ok-operands-in-Lights.ensures.at ∙ ap (λ l. all_at (exprs_of l) ss c.args.base next) c.as_slice-in-Lights.ensures)
    (ap block_of c.new-inside.ensures.items) (c.in_ok-b-in-Lights.ensures.code ∙ ap (λ l. block_of c.new-inside.result.items then all_code (stmts_of l) ss base c.args.temps) c.as_slice-in-Lights-2.ensures)
    h
    ∙ ap (λ x. o then stmt_code x ss base c.args.temps) (sym (lights_shown c.args.s.now c.in-Lights.word c.in-Lights.args c.in-Lights.body c.in-Lights.is)))
    c.lit.ensures.code

pub repeat-returns-clause-class : goal.repeat-returns-clause-class
repeat-returns-clause-class t c =
    let ss = scope_of c.args.scope.now in
    let ss1 = scope_of c.block.new.scope in
    let l = c.args.repeated.now in
    IfOk-weaker c.looped.result (λ u. u ≡ register_class c.in_ok-asked.asked && c.both-uniform.result) (λ u. u ≡ stmt_uniform (loop_of l) ss)
    (λ u h. both_of _ _ _ _ _ h
    (class_of (expr_of l.test) ss c.end-next.result c.in_ok-asked.asked _ c.in_ok-asked.ensures.at refl)
    (both_of _ _ _ _ _ c.both-uniform.ensures
    (c.in_ok-a.ensures.class ∙ ap (λ x. stmts_uniform (stmts_of x) ss) c.as_slice.ensures)
    (c.in_ok-b.ensures.class ∙ ap (λ x. stmts_uniform (stmts_of x) ss1) c.as_slice-2.ensures ∙ ap (stmts_uniform (stmts_of l.body)) c.in_ok-a.ensures.scope)))
    c.looped.ensures.class

pub repeat-returns-clause-code : goal.repeat-returns-clause-code
repeat-returns-clause-code t c =
    let ss = scope_of c.args.scope.now in
    let ss1 = scope_of c.block.new.scope in
    let base = c.args.base in
    let l = c.args.repeated.now in
    on_ok_weaker c.looped.result
    (λ h. repeat_code ss base c.end-next.result c.args.temps c.end-next.ensures l.uniform (expr_of l.test) (stmts_of l.step) (stmts_of l.body) c.in_ok-asked.asked ss1 (block_of c.args.code.now.items) _
    (block_of c.new-ask.result.items) _ (block_of c.new-step.result.items) _ (block_of c.new-body.result.items) _
    (ap block_of c.new-ask.ensures.items) c.in_ok-asked.ensures.code c.in_ok-asked.ensures.at
    (ap block_of c.new-step.ensures.items) (c.in_ok-a.ensures.code ∙ ap (λ x. block_of c.new-step.result.items then all_code (stmts_of x) ss base c.args.temps) c.as_slice.ensures)
    c.in_ok-a.ensures.scope
    (ap block_of c.new-body.ensures.items) (c.in_ok-b.ensures.code ∙ ap (λ x. block_of c.new-body.result.items then all_code (stmts_of x) ss1 base c.args.temps) c.as_slice-2.ensures)
    h)
    c.looped.ensures.code

pub expression-returns-in_ok-operands-in-Texture-clause-at : goal.expression-returns-in_ok-operands-in-Texture-clause-at
expression-returns-in_ok-operands-in-Texture-clause-at t c =
    let ss = scope_of c.args.scope.now in
    let next = c.args.next in
    IfOk-weaker c.texture.result (λ q. q ≡ looked_at c.in_ok-operands-in-Texture.operands.items next) (λ q. q ≡ at (expr_of c.args.e.now) ss next)
    (λ q h. look_at ss c.args.base next c.in-Texture.node (exprs_of c.in-Texture.args) c.in_ok-operands-in-Texture.operands.items q
    (c.in_ok-operands-in-Texture.ensures.at ∙ ap (λ l. all_at (exprs_of l) ss c.args.base next) c.as_slice-in-Texture.ensures) h
    ∙ ap (λ x. at x ss next) (sym (texture_shown c.args.e.now c.in-Texture.node c.in-Texture.args c.in-Texture.is)))
    c.texture.ensures.at

pub expression-returns-in_ok-operands-in-Texture-clause-code : goal.expression-returns-in_ok-operands-in-Texture-clause-code
expression-returns-in_ok-operands-in-Texture-clause-code t c =
    let ss = scope_of c.args.scope.now in
    let next = c.args.next in
    let o = block_of c.args.code.now.items in
    on_ok_weaker c.texture.result
    (λ h. look_code ss c.args.base next c.in-Texture.node (exprs_of c.in-Texture.args) c.in_ok-operands-in-Texture.operands.items o _ _
    (c.in_ok-operands-in-Texture.ensures.code ∙ ap (λ l. o then exprs_code (exprs_of l) ss c.args.base next) c.as_slice-in-Texture.ensures)
    (c.in_ok-operands-in-Texture.ensures.at ∙ ap (λ l. all_at (exprs_of l) ss c.args.base next) c.as_slice-in-Texture.ensures) h
    ∙ ap (λ x. o then expr_code x ss c.args.base next) (sym (texture_shown c.args.e.now c.in-Texture.node c.in-Texture.args c.in-Texture.is)))
    c.texture.ensures.code
