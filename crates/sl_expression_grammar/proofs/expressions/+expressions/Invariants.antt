use Rattle.std.proofs.Common.{◌≡◌, ◌≤◌, ◌+◌, ◌-◌, ◌*◌, [], ◌∷◌, length, map}
use Rattle.sl_ast.specs.SyntaxView.{expr_of, link_of}
use Rattle.sl_expression_grammar.specs.Reading.{with_front, many, after_comma}
use Rattle.sl_expression_grammar.specs.Expressions.{next_link, links_in, most_links, unary_at, expr_at}
use Rattle.sl_expression_grammar.specs.Rows.{operand_with, rows_from}
use Rattle.sl_expression_grammar.specs.Boxes.{boxed_expr}
use Rattle.sl_expression_grammar.proofs.expressions.+expressions.Given as goal

abbrev pub decreases-expr : goal.decreases-expr
decreases-expr l = 40 * l.levels

abbrev pub decreases-choice : goal.decreases-choice
decreases-choice l = 40 * l.levels + 39

abbrev pub decreases-chosen : goal.decreases-chosen
decreases-chosen l = 40 * l.levels + 38

abbrev pub decreases-chain : goal.decreases-chain
decreases-chain l = 40 * l.levels + 3 * rows_from l.row + 14

abbrev pub decreases-links : goal.decreases-links
decreases-links l = 40 * l.levels + 3 * rows_from l.row + 13

abbrev pub decreases-operand : goal.decreases-operand
decreases-operand l = 40 * l.levels + 3 * rows_from l.row + 12

abbrev pub decreases-unary : goal.decreases-unary
decreases-unary l = 40 * l.levels + 14

abbrev pub decreases-prim : goal.decreases-prim
decreases-prim l = 40 * l.levels + 13

abbrev pub decreases-named : goal.decreases-named
decreases-named l = 40 * l.levels + 12

abbrev pub decreases-arguments : goal.decreases-arguments
decreases-arguments l = 40 * l.levels + 11

abbrev pub decreases-further : goal.decreases-further
decreases-further l = 40 * l.levels + 10

abbrev pub decreases-paren : goal.decreases-paren
decreases-paren l = 40 * l.levels + 12

abbrev pub decreases-typed : goal.decreases-typed
decreases-typed l = 40 * l.levels + 20

abbrev pub decreases-inside : goal.decreases-inside
decreases-inside l = 40 * l.levels + 12

abbrev pub decreases-triple : goal.decreases-triple
decreases-triple l = 40 * l.levels + 11

abbrev pub invariant-further-loop-after : goal.invariant-further-loop-after
invariant-further-loop-after l = record {
  same : with_front (map expr_of l.args.items) (many (after_comma (expr_at l.levels)) (length l.ts + 1 - length l.args.items) l.rest)
      ≡ with_front (boxed_expr l.fn.first ∷ []) (many (after_comma (expr_at l.levels)) (length l.ts) l.ts);
  some : 1 ≤ length l.args.items;
  room : length l.args.items + length l.rest ≤ length l.ts + 1;
}

abbrev pub decreases-further-loop-after : goal.decreases-further-loop-after
decreases-further-loop-after l = length l.rest

abbrev pub invariant-links-loop-operator : goal.invariant-links-loop-operator
invariant-links-loop-operator l = record {
  same : with_front (map link_of l.links.items) (many (next_link l.row (operand_with l.row (unary_at l.levels))) (most_links l.row (length l.ts) - length l.links.items) l.rest)
      ≡ links_in l.row (operand_with l.row (unary_at l.levels)) l.ts;
  room : length l.links.items + length l.rest ≤ length l.ts;
}

abbrev pub decreases-links-loop-operator : goal.decreases-links-loop-operator
decreases-links-loop-operator l = length l.rest
