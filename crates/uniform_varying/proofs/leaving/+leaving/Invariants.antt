use Rattle.std.proofs.Common.{◌≡◌, drop, map, length, take}
use Rattle.sl_ast.specs.Typed.{stmts}
use Rattle.sl_ast.specs.TypedView.{tree_stmt}
use Rattle.sl_ast.specs.Classes as spec
use Rattle.uniform_varying.proofs.leaving.+leaving.Given as goal

abbrev pub invariant-leave_together-loop-s : goal.invariant-leave_together-loop-s
invariant-leave_together-loop-s l = record {
  behind : spec.leave_together (stmts (map tree_stmt (drop l.s-index l.body))) l.us.items l.uniform ≡ spec.leave_together (stmts (map tree_stmt l.body)) l.fn.us.items l.uniform;
  front : take (length l.fn.us.items) l.us.items ≡ l.fn.us.items;
}
