use Rattle.std.proofs.Common.{◌≡◌, ◌+◌, ◌*◌, drop, map}
use Rattle.sl_ast.specs.Syntax as U
use Rattle.sl_ast.specs.SyntaxView.{stmt_of}
use Rattle.sl_expressions.specs.TypedView.{tstmt_of}
use Rattle.sl_expressions.specs.Views.{around_of, local_of}
use Rattle.sl_typing.specs.Stmts.{put_after, typed_rows}
use Rattle.sl_typing.specs.Measures.{size_stmt, size_rows}
use Rattle.sl_typing.specs.Views.{Extends}
use Rattle.sl_typing.proofs.stmts.+stmts.Given as goal

abbrev pub decreases-stmt : goal.decreases-stmt
decreases-stmt l = 3 * size_stmt (stmt_of l.s.now)

abbrev pub decreases-branch : goal.decreases-branch
decreases-branch l = 3 * size_stmt (stmt_of l.s.now) + 1

abbrev pub decreases-rows : goal.decreases-rows
decreases-rows l = 3 * size_rows (U.stmts (map stmt_of l.body.now))

abbrev pub decreases-block : goal.decreases-block
decreases-block l = 3 * size_rows (U.stmts (map stmt_of l.body.now)) + 1

abbrev pub invariant-rows-loop-s : goal.invariant-rows-loop-s
invariant-rows-loop-s l = record {
  same : put_after (map tstmt_of l.done.items) (typed_rows (around_of l.g) l.from (map local_of l.scope) (U.stmts (map stmt_of (drop l.s-index l.body))))
      ≡ put_after (map tstmt_of l.initial.done.items) (typed_rows (around_of l.g) l.from (map local_of l.initial.scope) (U.stmts (map stmt_of l.body)));
  extends : Extends l.initial.scope l.scope;
}
