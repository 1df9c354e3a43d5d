use Rattle.std.proofs.Common.{◌≡◌, ◌++◌, drop, map}
use Rattle.sl_ast.specs.TypedView.{default_of}
use Rattle.sl_ast.specs.Classes as spec
use Rattle.uniform_varying.proofs.listing.list_defaults.Given as goal

abbrev pub invariant-loop-default : goal.invariant-loop-default
invariant-loop-default l = l.list.items ++ spec.classes_defaults (map default_of (drop l.default-index l.defaults)) ≡ l.fn.list.items ++ spec.classes_defaults (map default_of l.defaults)
