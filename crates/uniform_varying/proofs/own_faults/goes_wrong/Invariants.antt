use Rattle.std.proofs.Common.{◌≡◌, drop, map}
use Rattle.sl_ast.specs.Typed.{exprs}
use Rattle.sl_ast.specs.TypedView.{tree_expr}
use Rattle.sl_ast.specs.Settled as spec
use Rattle.uniform_varying.proofs.own_faults.goes_wrong.Given as goal

abbrev pub invariant-loop-e : goal.invariant-loop-e
invariant-loop-e l = spec.goes_wrong (exprs (map tree_expr (drop l.e-index l.args))) l.left l.us ≡ spec.goes_wrong (exprs (map tree_expr l.args)) l.formals l.us
