use Rattle.std.proofs.Common.{◌≡◌, ◌≤◌, ◌+◌, ◌*◌, ◌++◌, drop, take, length, map}
use Rattle.sl_ast.specs.Syntax as U
use Rattle.sl_ast.specs.SyntaxView.{stmt_of}
use Rattle.sl_typing.specs.Assigned.{sets_all}
use Rattle.sl_typing.specs.Measures.{size_stmt, size_rows}
use Rattle.sl_typing.proofs.assigned.+assigned.Given as goal

abbrev pub decreases-note_stmt : goal.decreases-note_stmt
decreases-note_stmt l = 2 * size_stmt (stmt_of l.s.now)

abbrev pub decreases-note_branch : goal.decreases-note_branch
decreases-note_branch l = 2 * size_stmt (stmt_of l.s.now) + 1

abbrev pub decreases-note_block : goal.decreases-note_block
decreases-note_block l = 2 * size_rows (U.stmts (map stmt_of l.body.now))

abbrev pub invariant-note_block-loop-s : goal.invariant-note_block-loop-s
invariant-note_block-loop-s l = record {
  same : l.set ++ sets_all l.own (U.stmts (map stmt_of (drop l.s-index l.body))) ≡ l.initial.set ++ sets_all l.initial.own (U.stmts (map stmt_of l.body));
  begins : take (length l.initial.own) l.own ≡ l.initial.own;
  long : length l.initial.own ≤ length l.own;
}
