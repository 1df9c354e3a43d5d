use Rattle.std.proofs.Common.{◌≡◌, drop}
use Rattle.rib_reader.specs.Rules.{lower, lowest}
use Rattle.rib_reader.specs.Lists.{param_code, params_code}
use Rattle.rib_reader.proofs.list_faults.params_fault.Given as goal

abbrev pub invariant-loop-param : goal.invariant-loop-param
invariant-loop-param l = lower l.fault (lowest (param_code l.follows) (drop l.param-index l.params)) ≡ params_code l.follows l.params
