use Rattle.std.proofs.Common.{◌+◌, ◌*◌}
use Rattle.grid_code.specs.View.{block_of}
use Rattle.sl_meaning.specs.CoreView.{expr_of, exprs_of, args_of, stmt_of, stmts_of, loop_of}
use Rattle.core_codegen.specs.Sizes.{expr_size, exprs_size, args_size, stmt_size, all_size}
use Rattle.core_codegen.specs.Slots.{scope_of}
use Rattle.core_codegen.proofs.Emitting.{Operands, Passing, Running}
use Rattle.core_codegen.proofs.emission.+emission.Given as goal

abbrev pub decreases-expression : goal.decreases-expression
decreases-expression l = 2 * expr_size (expr_of l.e.now)

abbrev pub decreases-expressions : goal.decreases-expressions
decreases-expressions l = 2 * exprs_size (exprs_of l.args.now)

abbrev pub decreases-arguments : goal.decreases-arguments
decreases-arguments l = 2 * args_size (args_of l.args.now)

abbrev pub decreases-statement : goal.decreases-statement
decreases-statement l = 2 * stmt_size (stmt_of l.s.now) + 1

abbrev pub decreases-repeat : goal.decreases-repeat
decreases-repeat l = 2 * stmt_size (loop_of l.repeated.now)

abbrev pub decreases-statements : goal.decreases-statements
decreases-statements l = 2 * all_size (stmts_of l.all.now)

abbrev pub decreases-block : goal.decreases-block
decreases-block l = 2 * all_size (stmts_of l.all.now) + 1

abbrev pub invariant-expressions-loop-e : goal.invariant-expressions-loop-e
invariant-expressions-loop-e l = Operands l.args l.e-index l.base l.next l.target (scope_of l.scope) (block_of l.initial.code.items) (block_of l.code.items) l.registers.items

abbrev pub invariant-arguments-loop-argument : goal.invariant-arguments-loop-argument
invariant-arguments-loop-argument l = Passing l.args l.argument-index l.base l.next l.target (scope_of l.scope) (block_of l.initial.code.items) (block_of l.code.items) (scope_of l.initial.inner) (scope_of l.inner) l.uniform

abbrev pub invariant-statements-loop-s : goal.invariant-statements-loop-s
invariant-statements-loop-s l = Running l.all l.s-index l.base l.temps (block_of l.initial.code.items) (block_of l.code.items) (scope_of l.initial.scope) (scope_of l.scope) l.uniform
