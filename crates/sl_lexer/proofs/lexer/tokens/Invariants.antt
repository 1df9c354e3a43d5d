use Rattle.std.proofs.Common.{◌≡◌, ◌≤◌, ◌+◌, ◌++◌, length}
use Rattle.sl_lexer.specs.Tokens.{tokens_from, tokens_of}
use Rattle.sl_lexer.proofs.lexer.tokens.Given as goal

abbrev pub invariant-loop-rest : goal.invariant-loop-rest
invariant-loop-rest l = record {
  same : l.tokens.items ++ tokens_from 0 l.line l.rest ≡ tokens_of l.bytes;
  starts : 1 ≤ l.line;
  lines : l.line + length l.rest ≤ 1 + length l.bytes;
}

abbrev pub decreases-loop-rest : goal.decreases-loop-rest
decreases-loop-rest l = length l.rest
