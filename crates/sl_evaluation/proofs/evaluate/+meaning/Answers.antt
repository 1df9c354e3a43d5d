use Rattle.std.specs.Prelude.{nat_lt}
use Rattle.std.proofs.Common.{ap, sym, subst, cond, ◌∙◌, arith}
use Rattle.sl_meaning.specs.CoreAlone.{value, arg_values, run, run_all}
use Rattle.sl_meaning.specs.Environment.{budget, spend}
use Rattle.sl_meaning.specs.Dark.{dark}
use Rattle.sl_meaning.specs.CoreView.{expr_of, exprs_of, args_of, stmts_of}
use Rattle.sl_evaluation.specs.ScopeView.{env_of}
use Rattle.sl_evaluation.specs.Signals.{signal_of}
use Rattle.sl_meaning.proofs.CoreRows.{apply_shown, call_shown, block_shown, test_shown, repeat_shown}
use Rattle.sl_evaluation.specs.Constant.{IsConstant, AreConstant, ArgumentsConstant, StmtConstant, AllConstant}
use Rattle.sl_evaluation.proofs.Constants.{are_each, arguments_each, all_each}
use Rattle.sl_evaluation.proofs.Sizes.{expr_size, exprs_size, args_size, stmt_size, all_size, expr_smaller, argument_smaller, stmt_smaller}
use Rattle.sl_evaluation.proofs.Steps.{call_means, then_means, else_means, cut_is, looping_stop, looping_spent, looping_left, looping_on}
use Rattle.sl_evaluation.proofs.evaluate.+meaning.Goals as goal

pub repeat-returns-then-not-is_set : goal.repeat-returns-then-not-is_set
repeat-returns-then-not-is_set t c =
    looping_stop c.args.turns.now c.loop-turn._turn _ _ _ _ _ _ c.loop-turn.invariant (omega arith) c.in_ok-holds.ensures
    (sym c.is_set.ensures ∙ c.if-not-is_set.true)

pub repeat-returns-then-not-spend : goal.repeat-returns-then-not-spend
repeat-returns-then-not-spend t c =
    looping_spent c.args.turns.now c.loop-turn._turn _ _ _ _ _ _ c.loop-turn.invariant (omega arith) c.in_ok-holds.ensures
    c.spend.result (env_of c.spend.new.self) (sym c.is_set.ensures ∙ c.if-not-is_set.false) (c.spend.ensures.left ∙ ap (λ u. nat_lt 0 (budget u (env_of c.value.new.scope))) (sym c.requires.0))
    (c.spend.ensures.spent ∙ ap (λ u. cond c.spend.result (spend u (env_of c.value.new.scope)) (env_of c.value.new.scope)) (sym c.requires.0)) c.if-not-spend.true

pub repeat-returns-then-is_break : goal.repeat-returns-then-is_break
repeat-returns-then-is_break t c =
    looping_left c.args.turns.now c.loop-turn._turn _ _ _ _ _ _ c.loop-turn.invariant (omega arith) c.in_ok-holds.ensures
    c.spend.result (env_of c.spend.new.self) (sym c.is_set.ensures ∙ c.if-not-is_set.false) (c.spend.ensures.left ∙ ap (λ u. nat_lt 0 (budget u (env_of c.value.new.scope))) (sym c.requires.0))
    (c.spend.ensures.spent ∙ ap (λ u. cond c.spend.result (spend u (env_of c.value.new.scope)) (env_of c.value.new.scope)) (sym c.requires.0))
    (env_of c.run_all.new.scope) (env_of c.cut.new.self) (signal_of c.in_ok-signal.signal) c.if-not-spend.false
    (ap (λ l. run_all (stmts_of l) (dark c.args.spaces.now) c.args.most (env_of c.spend.new.self)) (sym c.as_slice.ensures) ∙ c.in_ok-signal.ensures)
    (cut_is (env_of c.spend.new.self) (env_of c.run_all.new.scope) (env_of c.cut.new.self) c.depth-depth.result c.cut.ensures c.depth-depth.ensures)
    (sym c.is_break.ensures ∙ c.if-is_break.true)

pub repeat-loop-turn-preserved : goal.repeat-loop-turn-preserved
repeat-loop-turn-preserved t c =
    looping_on c.args.turns.now c.loop-turn._turn _ _ _ _ _ _ c.loop-turn.invariant (omega arith) c.in_ok-holds.ensures
    c.spend.result (env_of c.spend.new.self) (sym c.is_set.ensures ∙ c.if-not-is_set.false) (c.spend.ensures.left ∙ ap (λ u. nat_lt 0 (budget u (env_of c.value.new.scope))) (sym c.requires.0))
    (c.spend.ensures.spent ∙ ap (λ u. cond c.spend.result (spend u (env_of c.value.new.scope)) (env_of c.value.new.scope)) (sym c.requires.0))
    (env_of c.run_all.new.scope) (env_of c.cut.new.self) (signal_of c.in_ok-signal.signal) c.if-not-spend.false
    (ap (λ l. run_all (stmts_of l) (dark c.args.spaces.now) c.args.most (env_of c.spend.new.self)) (sym c.as_slice.ensures) ∙ c.in_ok-signal.ensures)
    (cut_is (env_of c.spend.new.self) (env_of c.run_all.new.scope) (env_of c.cut.new.self) c.depth-depth.result c.cut.ensures c.depth-depth.ensures)
    (signal_of c.in_ok-run_all.field-0) (env_of c.run_all-in-loop-turn.new.scope)
    (sym c.is_break.ensures ∙ c.if-is_break.false)
    (ap (λ l. run_all (stmts_of l) (dark c.args.spaces.now) c.args.most (env_of c.cut.new.self)) (sym c.as_slice-in-loop-turn.ensures) ∙ c.in_ok-run_all.ensures)

pub run-returns-then-is_set : goal.run-returns-then-is_set
run-returns-then-is_set t c =
    let g = dark c.args.spaces.now in
    let n = c.args.most in
    ap (λ x. run x g n (env_of c.args.scope.now)) (test_shown c.args.s.now c.in-Test.test c.in-Test.then c.in-Test.otherwise c.in-Test.is)
    ∙ then_means g n (env_of c.args.scope.now) (env_of c.value-in-Test.new.scope) c.in_ok-holds-in-Test.holds
    (expr_of c.in-Test.test) (stmts_of c.in-Test.then) (stmts_of c.in-Test.otherwise) (env_of c.run_all-then-is_set.new.scope) _ _
    c.in_ok-holds-in-Test.ensures
    (sym c.is_set.ensures ∙ c.if-is_set.true)
    (ap (λ l. run_all (stmts_of l) g n (env_of c.value-in-Test.new.scope)) (sym c.as_slice-then-is_set.ensures) ∙ c.in_ok-signal-in-Test.ensures)
    (cut_is (env_of c.value-in-Test.new.scope) (env_of c.run_all-then-is_set.new.scope) (env_of c.cut-then-is_set.new.self) c.depth-depth-in-Test.result c.cut-then-is_set.ensures c.depth-depth-in-Test.ensures)

pub run-returns-in_ok-signal-in-Test-2 : goal.run-returns-in_ok-signal-in-Test-2
run-returns-in_ok-signal-in-Test-2 t c =
    let g = dark c.args.spaces.now in
    let n = c.args.most in
    ap (λ x. run x g n (env_of c.args.scope.now)) (test_shown c.args.s.now c.in-Test.test c.in-Test.then c.in-Test.otherwise c.in-Test.is)
    ∙ else_means g n (env_of c.args.scope.now) (env_of c.value-in-Test.new.scope) c.in_ok-holds-in-Test.holds
    (expr_of c.in-Test.test) (stmts_of c.in-Test.then) (stmts_of c.in-Test.otherwise) (env_of c.run_all-in-Test.new.scope) _ _
    c.in_ok-holds-in-Test.ensures
    (sym c.is_set.ensures ∙ c.if-is_set.false)
    (ap (λ l. run_all (stmts_of l) g n (env_of c.value-in-Test.new.scope)) (sym c.as_slice-in-Test.ensures) ∙ c.in_ok-signal-in-Test-2.ensures)
    (cut_is (env_of c.value-in-Test.new.scope) (env_of c.run_all-in-Test.new.scope) (env_of c.cut-in-Test.new.self) c.depth-depth-in-Test.result c.cut-in-Test.ensures c.depth-depth-in-Test.ensures)

pub value-returns-in_ok-result-in-Call : goal.value-returns-in_ok-result-in-Call
value-returns-in_ok-result-in-Call t c =
    let g = dark c.args.spaces.now in
    let n = c.args.most in
    let e = env_of c.args.scope.now in
    let d = env_of c.value.new.scope in
    ap (λ x. value x g n e) (call_shown c.args.e.now c.in-Call.args c.in-Call.body c.in-Call.kind c.in-Call.returned c.in-Call.is)
    ∙ call_means (args_of c.in-Call.args) (stmts_of c.in-Call.body) c.in-Call.kind (expr_of c.in-Call.returned.value) g n e
    (env_of c.arg_values.new.scope) (env_of c.exchange-outer.new.self) (env_of c.run_all.new.scope) d (env_of c.exchange.new.self)
    c.in_ok-formals-in-Call.formals.items (signal_of c.in_ok-run_all-in-Call.field-0) c.in_ok-found-in-Call.found c.in_ok-result-in-Call.result
    (ap (λ l. arg_values (args_of l) g n e) (sym c.as_slice-in-Call.ensures) ∙ c.in_ok-formals-in-Call.ensures)
    c.exchange-outer.ensures.now
    (ap (λ l. run_all (stmts_of l) g n (env_of c.exchange-outer.new.self)) (sym c.as_slice-in-Call-2.ensures) ∙ c.in_ok-run_all-in-Call.ensures)
    (ap (λ x. value (expr_of x) g n (env_of c.run_all.new.scope)) (sym c.deref-in-Call.ensures) ∙ c.in_ok-found-in-Call.ensures)
    (c.exchange.ensures.now ∙ ap (λ vs. record d { values = vs }) c.exchange-outer.ensures.old)
    c.in_ok-result-in-Call.ensures

-- the parts of what is constant are constant, and smaller

pub value-all_values-requires : goal.value-all_values-requires
value-all_values-requires t c =
    let q = apply_shown c.args.e.now c.in-Apply.operation c.in-Apply.args c.in-Apply.is in
    let d = c.as_slice.ensures in (
      omega (arith, c.decreases, ap expr_size q, ap (λ l. exprs_size (exprs_of l)) d),
      subst (λ l. AreConstant (exprs_of l)) (sym d) (subst IsConstant q c.requires),
    )

pub value-arg_values-requires : goal.value-arg_values-requires
value-arg_values-requires t c =
    let q = call_shown c.args.e.now c.in-Call.args c.in-Call.body c.in-Call.kind c.in-Call.returned c.in-Call.is in
    let d = c.as_slice-in-Call.ensures in (
      omega (arith, c.decreases, ap expr_size q, ap (λ l. args_size (args_of l)) d),
      subst (λ l. ArgumentsConstant (args_of l)) (sym d) (subst IsConstant q c.requires).0,
    )

pub value-run_all-requires : goal.value-run_all-requires
value-run_all-requires t c =
    let q = call_shown c.args.e.now c.in-Call.args c.in-Call.body c.in-Call.kind c.in-Call.returned c.in-Call.is in
    let d = c.as_slice-in-Call-2.ensures in (
      omega (arith, c.decreases, ap expr_size q, ap (λ l. all_size (stmts_of l)) d),
      subst (λ l. AllConstant (stmts_of l)) (sym d) (subst IsConstant q c.requires).1.0,
    )

pub value-value-requires : goal.value-value-requires
value-value-requires t c =
    let q = call_shown c.args.e.now c.in-Call.args c.in-Call.body c.in-Call.kind c.in-Call.returned c.in-Call.is in
    let d = c.deref-in-Call.ensures in (
      omega (arith, c.decreases, ap expr_size q, ap (λ x. expr_size (expr_of x)) d),
      subst (λ x. IsConstant (expr_of x)) (sym d) (subst IsConstant q c.requires).1.1,
    )

pub all_values-value-requires : goal.all_values-value-requires
all_values-value-requires t c =
    let small = expr_smaller c.args.args.now c.loop-e.e-index c.e-item.result (omega arith) c.e-item.is in
    (omega (arith, c.decreases, small), are_each c.args.args.now c.loop-e.e-index c.e-item.result c.requires (omega arith) c.e-item.is)

pub arg_values-value-requires : goal.arg_values-value-requires
arg_values-value-requires t c =
    let small = argument_smaller c.args.args.now c.loop-a.a-index c.a-item.result (omega arith) c.a-item.is in
    (omega (arith, c.decreases, small), arguments_each c.args.args.now c.loop-a.a-index c.a-item.result c.requires (omega arith) c.a-item.is)

pub run-run_all-requires : goal.run-run_all-requires
run-run_all-requires t c =
    let q = block_shown c.args.s.now c.in-Block.body c.in-Block.is in
    let d = c.as_slice.ensures in (
      omega (arith, c.decreases, ap stmt_size q, ap (λ l. all_size (stmts_of l)) d),
      subst (λ l. AllConstant (stmts_of l)) (sym d) (subst StmtConstant q c.requires),
    )

pub run-run_all-requires-then-is_set : goal.run-run_all-requires-then-is_set
run-run_all-requires-then-is_set t c =
    let q = test_shown c.args.s.now c.in-Test.test c.in-Test.then c.in-Test.otherwise c.in-Test.is in
    let d = c.as_slice-then-is_set.ensures in (
      omega (arith, c.decreases, ap stmt_size q, ap (λ l. all_size (stmts_of l)) d),
      subst (λ l. AllConstant (stmts_of l)) (sym d) (subst StmtConstant q c.requires).1.0,
    )

pub run-run_all-requires-in-Test : goal.run-run_all-requires-in-Test
run-run_all-requires-in-Test t c =
    let q = test_shown c.args.s.now c.in-Test.test c.in-Test.then c.in-Test.otherwise c.in-Test.is in
    let d = c.as_slice-in-Test.ensures in (
      omega (arith, c.decreases, ap stmt_size q, ap (λ l. all_size (stmts_of l)) d),
      subst (λ l. AllConstant (stmts_of l)) (sym d) (subst StmtConstant q c.requires).1.1,
    )

pub run-repeat-requires : goal.run-repeat-requires
run-repeat-requires t c =
    let q = repeat_shown c.args.s.now c.in-Repeat.turns c.in-Repeat.is in
    (omega (arith, c.decreases, ap stmt_size q), subst StmtConstant q c.requires)

pub run_all-run-requires : goal.run_all-run-requires
run_all-run-requires t c =
    let small = stmt_smaller c.args.body.now c.loop-s.s-index c.s-item.result (omega arith) c.s-item.is in
    (omega (arith, c.decreases, small), all_each c.args.body.now c.loop-s.s-index c.s-item.result c.requires (omega arith) c.s-item.is)
