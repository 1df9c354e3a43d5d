use Rattle.std.proofs.Common.{◌≡◌, drop}
use Rattle.sl_ast.specs.Settled as spec
use Rattle.uniform_varying.proofs.own_faults.settle_formals.Given as goal

abbrev pub invariant-loop-formal : goal.invariant-loop-formal
invariant-loop-formal l = spec.settled_formals (drop l.formal-index l.formals) l.lit ≡ spec.settled_formals l.formals l.lit
