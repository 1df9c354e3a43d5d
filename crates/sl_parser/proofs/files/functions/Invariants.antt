use Rattle.std.proofs.Common.{◌≡◌, ◌≤◌, ◌+◌, ◌-◌, length, map}
use Rattle.sl_ast.specs.SyntaxView.{function_of}
use Rattle.sl_expression_grammar.specs.Reading.{with_front, many}
use Rattle.sl_parser.specs.Files.{next_function, functions_in}
use Rattle.sl_parser.proofs.files.functions.Given as goal

abbrev pub invariant-loop-returns : goal.invariant-loop-returns
invariant-loop-returns l = record {
  same : with_front (map function_of l.functions.items) (many (next_function l.levels) (length l.ts - length l.functions.items) l.rest) ≡ functions_in l.levels l.ts;
  room : length l.functions.items + length l.rest ≤ length l.ts;
}

abbrev pub decreases-loop-returns : goal.decreases-loop-returns
decreases-loop-returns l = length l.rest
