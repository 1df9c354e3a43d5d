use Rattle.std.proofs.Common.{◌≡◌, drop, map}
use Rattle.rib_reader.specs.Entries.{word_of}
use Rattle.rib_reader.specs.Rules.{is_among}
use Rattle.rib_reader.proofs.words.is_among.Given as goal

abbrev pub invariant-loop-word : goal.invariant-loop-word
invariant-loop-word l = is_among (map word_of (drop l.word-index l.words)) l.text ≡ is_among (map word_of l.words) l.text
