use Rattle.std.proofs.Common.{◌≡◌, ◌++◌, drop, map}
use Rattle.sl_ast.specs.SyntaxView.{declared_of}
use Rattle.sl_typing.specs.Assigned.{declared_name}
use Rattle.sl_typing.proofs.assigned.declare.Given as goal

abbrev pub invariant-loop-declared : goal.invariant-loop-declared
invariant-loop-declared l =
    l.own ++ map declared_name (map declared_of (drop l.declared-index l.names)) ≡ l.initial.own ++ map declared_name (map declared_of l.names)
