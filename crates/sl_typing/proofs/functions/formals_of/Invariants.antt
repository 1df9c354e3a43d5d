use Rattle.std.proofs.Common.{◌≡◌, ◌++◌, drop, map}
use Rattle.sl_ast.specs.SyntaxView.{group_of}
use Rattle.sl_expressions.specs.Views.{local_of}
use Rattle.sl_typing.specs.Functions.{formals_of}
use Rattle.sl_typing.proofs.functions.formals_of.Given as goal

abbrev pub invariant-loop-group : goal.invariant-loop-group
invariant-loop-group l = map local_of l.formals.items ++ formals_of (map group_of (drop l.group-index l.groups)) ≡ formals_of (map group_of l.groups)
