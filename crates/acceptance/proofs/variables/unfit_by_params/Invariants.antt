use Rattle.std.proofs.Common.{◌≡◌, drop, map}
use Rattle.std.specs.List.{list_any}
use Rattle.sl_ast.specs.TypedView.{local_of}
use Rattle.acceptance.proofs.ByParameter.{unfits}
use Rattle.acceptance.proofs.variables.unfit_by_params.Given as goal

abbrev pub invariant-loop-param : goal.invariant-loop-param
invariant-loop-param l = list_any (unfits l.variables) (map local_of (drop l.param-index l.params)) ≡ list_any (unfits l.variables) (map local_of l.params)
