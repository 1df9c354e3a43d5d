use Rattle.std.proofs.Common.{◌≡◌, drop}
use Rattle.primitives.specs.Variables.{are_counted}
use Rattle.primitives.proofs.variables.are_counted.Given as goal

abbrev pub invariant-loop-param : goal.invariant-loop-param
invariant-loop-param l = are_counted l.extent (drop l.param-index l.params) ≡ are_counted l.extent l.params
