use Rattle.std.proofs.Common.{◌≡◌, ◌++◌, drop}
use Rattle.sl_ast.specs.Classes as spec
use Rattle.uniform_varying.proofs.scope.formal_classes.Given as goal

abbrev pub invariant-loop-formal : goal.invariant-loop-formal
invariant-loop-formal l = l.us.items ++ spec.formal_classes (drop l.formal-index l.formals) ≡ spec.formal_classes l.formals
