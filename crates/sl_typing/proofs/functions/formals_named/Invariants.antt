use Rattle.std.proofs.Common.{◌≡◌, ◌++◌, drop, map}
use Rattle.sl_ast.specs.SyntaxView.{declared_of}
use Rattle.sl_expressions.specs.Views.{local_of}
use Rattle.sl_typing.specs.Functions.{formals_named}
use Rattle.sl_typing.proofs.functions.formals_named.Given as goal

abbrev pub invariant-loop-d : goal.invariant-loop-d
invariant-loop-d l =
    map local_of l.formals.items ++ formals_named l.uniform l.kind (map declared_of (drop l.d-index l.names))
    ≡ map local_of l.initial.formals.items ++ formals_named l.uniform l.kind (map declared_of l.names)
