use Rattle.sl_meaning.specs.Dark.{dark}
use Rattle.sl_evaluation.specs.ScopeView.{env_of}
use Rattle.sl_evaluation.proofs.Steps.{Evaluating, Passing, Running, Looping}
use Rattle.sl_meaning.specs.CoreView.{expr_of, exprs_of, args_of, stmt_of, stmts_of}
use Rattle.sl_evaluation.proofs.Sizes.{expr_size, exprs_size, args_size, stmt_size, all_size, loop_size}
use Rattle.sl_evaluation.proofs.evaluate.+meaning.Given as goal

abbrev pub invariant-all_values-loop-e : goal.invariant-all_values-loop-e
invariant-all_values-loop-e l = Evaluating l.args l.e-index (dark l.spaces) l.most l.values.items (env_of l.initial.scope) (env_of l.scope)

abbrev pub invariant-arg_values-loop-a : goal.invariant-arg_values-loop-a
invariant-arg_values-loop-a l = Passing l.args l.a-index (dark l.spaces) l.most l.values.items (env_of l.initial.scope) (env_of l.scope)

abbrev pub invariant-run_all-loop-s : goal.invariant-run_all-loop-s
invariant-run_all-loop-s l = Running l.body l.s-index (dark l.spaces) l.most (env_of l.initial.scope) (env_of l.scope)

abbrev pub invariant-repeat-loop-turn : goal.invariant-repeat-loop-turn
invariant-repeat-loop-turn l = Looping l.turns l._turn (dark l.spaces) l.most (env_of l.initial.scope) (env_of l.scope)

abbrev pub decreases-value : goal.decreases-value
decreases-value l = expr_size (expr_of l.e.now)

abbrev pub decreases-all_values : goal.decreases-all_values
decreases-all_values l = exprs_size (exprs_of l.args.now)

abbrev pub decreases-arg_values : goal.decreases-arg_values
decreases-arg_values l = args_size (args_of l.args.now)

abbrev pub decreases-run : goal.decreases-run
decreases-run l = stmt_size (stmt_of l.s.now)

abbrev pub decreases-repeat : goal.decreases-repeat
decreases-repeat l = loop_size l.turns.now

abbrev pub decreases-run_all : goal.decreases-run_all
decreases-run_all l = all_size (stmts_of l.body.now)
