use Rattle.std.proofs.Common.{◌≡◌, ◌<◌, All, drop, false}
use Rattle.sl_lexer.specs.Found.{string_in, longer}
use Rattle.sl_lexer.proofs.strings.read_string.Given as goal

abbrev pub invariant-loop-at : goal.invariant-loop-at
invariant-loop-at l = record {
  same : longer l.text.items l.at (string_in l.after_backslash (drop l.at l.bytes)) ≡ string_in false l.bytes;
  ascii : All (λ b. b < 128) l.text.items;
}
