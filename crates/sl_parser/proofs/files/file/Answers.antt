use Rattle.std.proofs.Common.{arith, ◌≤◌, map}
use Rattle.sl_ast.specs.SyntaxView.{function_of}
use Rattle.sl_ast.specs.Levels.{levels_functions}
use Rattle.sl_parser.proofs.FileTexts.{functions_shallow}
use Rattle.sl_parser.proofs.files.file.Goals as goal

pub shader-requires-clause-shallow : goal.shader-requires-clause-shallow
shader-requires-clause-shallow c =
    let functions : levels_functions (map function_of c.in_ok-functions.functions.items) ≤ c.args.levels =
    functions_shallow c.args.levels c.args.ts.now _ _ c.in_ok-functions.ensures.gives in
    omega (arith, functions, c.requires)
