use Rattle.std.proofs.Common.{◌≡◌, ◌++◌, drop, map}
use Rattle.sl_ast.specs.TypedView.{local_of}
use Rattle.sl_meaning.specs.Lowered.{slots}
use Rattle.core_codegen.specs.Slots.{slots_of}
use Rattle.core_codegen.proofs.beginning.param_slots.Given as goal

abbrev pub invariant-loop-param : goal.invariant-loop-param
invariant-loop-param l = slots_of l.slots.items ++ slots (map local_of (drop l.param-index l.params)) ≡ slots (map local_of l.params)
