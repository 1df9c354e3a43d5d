use Rattle.std.proofs.Common.{◌≡◌, drop, map}
use Rattle.sl_ast.specs.SyntaxView.{function_of}
use Rattle.sl_expressions.specs.Views.{callee_of}
use Rattle.sl_typing.specs.Functions.{known_from}
use Rattle.sl_typing.proofs.functions.learn_all.Given as goal

abbrev pub invariant-loop-f : goal.invariant-loop-f
invariant-loop-f l =
    known_from l.kind (map callee_of l.known) (map function_of (drop l.f-index l.functions))
    ≡ known_from l.kind (map callee_of l.initial.known) (map function_of l.functions)
