use Rattle.std.proofs.Common.{◌≡◌, ◌≤◌, ◌+◌, ◌-◌, [], ◌∷◌, length, map}
use Rattle.sl_ast.specs.SyntaxView.{declared_of}
use Rattle.sl_expression_grammar.specs.Reading.{with_front, many, after_comma}
use Rattle.sl_expression_grammar.specs.Expressions.{expr_at}
use Rattle.sl_parser.specs.Statements.{declared_with}
use Rattle.sl_parser.proofs.declarations.further.Given as goal

abbrev pub invariant-loop-after : goal.invariant-loop-after
invariant-loop-after l = record {
  same : with_front (map declared_of l.names.items) (many (after_comma (declared_with (expr_at l.levels) l.valued)) (length l.ts + 1 - length l.names.items) l.rest)
      ≡ with_front (declared_of l.fn.first ∷ []) (many (after_comma (declared_with (expr_at l.levels) l.valued)) (length l.ts) l.ts);
  some : 1 ≤ length l.names.items;
  room : length l.names.items + length l.rest ≤ length l.ts + 1;
}

abbrev pub decreases-loop-after : goal.decreases-loop-after
decreases-loop-after l = length l.rest
