use Rattle.std.proofs.Common.{◌+◌, ◌*◌}
use Rattle.sl_meaning.specs.CoreView.{stmt_of, stmts_of}
use Rattle.core_codegen.specs.Sizes.{stmt_size, all_size}
use Rattle.core_codegen.proofs.Counting.{Counting}
use Rattle.core_codegen.proofs.locals.+locals.Given as goal

abbrev pub decreases-declared : goal.decreases-declared
decreases-declared l = 2 * stmt_size (stmt_of l.s.now)

abbrev pub decreases-all_declared : goal.decreases-all_declared
decreases-all_declared l = 2 * all_size (stmts_of l.all.now) + 1

abbrev pub invariant-all_declared-loop-s : goal.invariant-all_declared-loop-s
invariant-all_declared-loop-s l = Counting l.all l.s-index l.count
