use Rattle.std.proofs.Common.{◌≡◌, drop, map}
use Rattle.sl_ast.specs.Typed.{stmts}
use Rattle.sl_ast.specs.TypedView.{tree_stmt}
use Rattle.sl_ast.specs.Classes as spec
use Rattle.uniform_varying.proofs.scope.enter_all.Given as goal

abbrev pub invariant-loop-s : goal.invariant-loop-s
invariant-loop-s l = spec.after_all (stmts (map tree_stmt (drop l.s-index l.body))) l.us.items ≡ spec.after_all (stmts (map tree_stmt l.body)) l.fn.us.items
