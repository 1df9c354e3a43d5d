use Rattle.std.proofs.Common.{◌≡◌, ◌+◌, drop, false, option_map}
use Rattle.sl_lexer.specs.Found.{comment_in}
use Rattle.sl_lexer.proofs.strings.comment_len.Given as goal

abbrev pub invariant-loop-at : goal.invariant-loop-at
invariant-loop-at l = option_map (λ n. l.at + n) (comment_in l.star (drop l.at l.bytes)) ≡ comment_in false l.bytes
