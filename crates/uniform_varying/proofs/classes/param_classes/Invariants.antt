use Rattle.std.proofs.Common.{◌≡◌, ◌++◌, drop, map}
use Rattle.sl_ast.specs.TypedView.{local_of}
use Rattle.sl_ast.specs.Classes.{local_classes}
use Rattle.uniform_varying.proofs.classes.param_classes.Given as goal

abbrev pub invariant-loop-param : goal.invariant-loop-param
invariant-loop-param l = l.us.items ++ local_classes (map local_of (drop l.param-index l.params)) ≡ local_classes (map local_of l.params)
