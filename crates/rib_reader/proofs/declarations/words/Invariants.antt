use Rattle.std.proofs.Common.{◌≡◌, drop, []}
use Rattle.std.specs.Str.{IsAscii}
use Rattle.rib_reader.proofs.Gathering.{words_from}
use Rattle.rib_reader.proofs.declarations.words.Given as goal

abbrev pub invariant-loop-byte : goal.invariant-loop-byte
invariant-loop-byte l = record { same : words_from l.words l.word.items (drop l.byte-index l.text) ≡ words_from [] [] l.text; ascii : IsAscii l.word.items }
