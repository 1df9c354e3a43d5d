use Rattle.std.proofs.Common.{◌≡◌, drop, map}
use Rattle.sl_expressions.specs.Views.{local_of}
use Rattle.sl_typing.specs.Functions.{scope_from}
use Rattle.sl_typing.proofs.functions.enter.Given as goal

abbrev pub invariant-loop-formal : goal.invariant-loop-formal
invariant-loop-formal l = scope_from (map local_of l.scope) (map local_of (drop l.formal-index l.formals)) ≡ scope_from (map local_of l.initial.scope) (map local_of l.formals)
