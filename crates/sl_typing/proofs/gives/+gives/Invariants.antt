use Rattle.std.proofs.Common.{◌≡◌, drop, map}
use Rattle.sl_ast.specs.Syntax as U
use Rattle.sl_ast.specs.SyntaxView.{stmt_of}
use Rattle.sl_typing.specs.Functions.{gives_any}
use Rattle.sl_typing.specs.Measures.{size_stmt, size_rows}
use Rattle.sl_typing.proofs.gives.+gives.Given as goal

abbrev pub decreases-gives : goal.decreases-gives
decreases-gives l = size_stmt (stmt_of l.s.now)

abbrev pub decreases-gives_any : goal.decreases-gives_any
decreases-gives_any l = size_rows (U.stmts (map stmt_of l.body.now))

abbrev pub invariant-gives_any-loop-s : goal.invariant-gives_any-loop-s
invariant-gives_any-loop-s l = gives_any (U.stmts (map stmt_of (drop l.s-index l.body))) ≡ gives_any (U.stmts (map stmt_of l.body))
