use Rattle.std.proofs.Common.{◌≡◌, drop, false}
use Rattle.std.specs.Str.{IsAscii}
use Rattle.rib_lex.specs.Strings.{string_in, longer}
use Rattle.rib_lex.proofs.strings.unescaped.Given as goal

abbrev pub invariant-loop-at : goal.invariant-loop-at
invariant-loop-at l = record {
  same : longer l.text.items l.at (string_in l.behind (drop l.at l.bytes)) ≡ string_in false l.bytes;
  ascii : IsAscii l.text.items;
}
