use Rattle.std.proofs.Common.{◌≡◌, ◌≤◌, ◌+◌, ◌-◌, [], ◌∷◌, length, map}
use Rattle.sl_ast.specs.SyntaxView.{group_of}
use Rattle.sl_expression_grammar.specs.Reading.{with_front, many}
use Rattle.sl_expression_grammar.specs.Expressions.{expr_at}
use Rattle.sl_parser.specs.Statements.{group_with}
use Rattle.sl_parser.specs.Files.{next_group}
use Rattle.sl_parser.proofs.files.further.Given as goal

abbrev pub invariant-loop-after : goal.invariant-loop-after
invariant-loop-after l = record {
  same : with_front (map group_of l.groups.items) (many (next_group (group_with (expr_at l.levels) l.valued)) (length l.ts + 1 - length l.groups.items) l.rest)
      ≡ with_front (group_of l.fn.first ∷ []) (many (next_group (group_with (expr_at l.levels) l.valued)) (length l.ts) l.ts);
  some : 1 ≤ length l.groups.items;
  room : length l.groups.items + length l.rest ≤ length l.ts + 1;
}

abbrev pub decreases-loop-after : goal.decreases-loop-after
decreases-loop-after l = length l.rest
