use Rattle.std.proofs.Common.{◌≡◌, drop, map, false}
use Rattle.sl_ast.specs.TypedView.{default_of, local_of}
use Rattle.sl_ast.specs.Settled as spec
use Rattle.uniform_varying.proofs.settled.settle_defaults.Given as goal

abbrev pub invariant-loop-default : goal.invariant-loop-default
invariant-loop-default l = spec.settled_defaults (map default_of (drop l.default-index l.defaults)) (map local_of l.left) l.lit ≡ spec.settled_defaults (map default_of l.defaults) (map local_of l.params) false
