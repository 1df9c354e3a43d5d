use Rattle.std.proofs.Common.{◌≡◌, map, take}
use Rattle.acceptance.specs.RequestFit.{param_name}
use Rattle.acceptance.proofs.values.names_of.Given as goal

abbrev pub invariant-loop-param : goal.invariant-loop-param
invariant-loop-param l = l.names ≡ map param_name (take l.param-index l.params)
