use Rattle.std.proofs.Common.{◌≡◌, ◌≤◌, ◌+◌, ◌-◌, ◌*◌, length, map}
use Rattle.sl_ast.specs.SyntaxView.{stmt_of}
use Rattle.sl_expression_grammar.specs.Reading.{with_front, many}
use Rattle.sl_parser.specs.Statements.{next_stmt, stmt_at}
use Rattle.sl_parser.proofs.statements.+statements.Given as goal

abbrev pub decreases-stmt : goal.decreases-stmt
decreases-stmt l = 6 * l.levels

abbrev pub decreases-opened : goal.decreases-opened
decreases-opened l = 6 * l.levels + 4

abbrev pub decreases-worded : goal.decreases-worded
decreases-worded l = 6 * l.levels + 3

abbrev pub decreases-block : goal.decreases-block
decreases-block l = 6 * l.levels + 1

abbrev pub decreases-choice : goal.decreases-choice
decreases-choice l = 6 * l.levels + 2

abbrev pub decreases-repeated : goal.decreases-repeated
decreases-repeated l = 6 * l.levels + 2

abbrev pub decreases-stepped : goal.decreases-stepped
decreases-stepped l = 6 * l.levels + 2

abbrev pub decreases-lit : goal.decreases-lit
decreases-lit l = 6 * l.levels + 2

abbrev pub decreases-solar : goal.decreases-solar
decreases-solar l = 6 * l.levels + 2

abbrev pub invariant-block-loop-tail : goal.invariant-block-loop-tail
invariant-block-loop-tail l = record {
  same : with_front (map stmt_of l.body.items) (many (next_stmt (stmt_at l.levels)) (length l.ts + 1 - length l.body.items) l.rest)
      ≡ many (next_stmt (stmt_at l.levels)) (length l.ts + 1) l.ts;
  room : length l.body.items + length l.rest ≤ length l.ts;
}

abbrev pub decreases-block-loop-tail : goal.decreases-block-loop-tail
decreases-block-loop-tail l = length l.rest
