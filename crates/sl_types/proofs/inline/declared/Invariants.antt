use Rattle.std.proofs.Common.{◌≡◌, ◌++◌, drop, map}
use Rattle.sl_ast.specs.TypedView.{local_of}
use Rattle.sl_types.specs.Inline.{declared_of}
use Rattle.sl_typing.specs.Views.{param_of}
use Rattle.sl_types.proofs.inline.declared.Given as goal

abbrev pub invariant-loop-param : goal.invariant-loop-param
invariant-loop-param l = map local_of l.made.items ++ map declared_of (map param_of (drop l.param-index l.params)) ≡ map declared_of (map param_of l.params)
