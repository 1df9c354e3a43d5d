use Rattle.std.proofs.Common.{◌≡◌, drop, map}
use Rattle.stock.specs.Texts.{text_of}
use Rattle.stock.specs.Entries.{plain}
use Rattle.stock.proofs.texts.find.Given as goal

abbrev pub invariant-loop-entry : goal.invariant-loop-entry
invariant-loop-entry l = text_of (map plain (drop l.entry-index l.entries)) l.name ≡ text_of (map plain l.entries) l.name
