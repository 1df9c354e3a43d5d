use Rattle.std.proofs.Common.{◌≡◌, map, take}
use Rattle.sl_ast.specs.TypedView.{local_of}
use Rattle.acceptance.specs.RequestFit.{local_name}
use Rattle.acceptance.proofs.request_fit.declared_names.Given as goal

abbrev pub invariant-loop-param : goal.invariant-loop-param
invariant-loop-param l = l.names ≡ map local_name (map local_of (take l.param-index l.param-items))
