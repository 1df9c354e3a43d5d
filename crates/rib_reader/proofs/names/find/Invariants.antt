use Rattle.std.proofs.Common.{◌≡◌, drop, map}
use Rattle.rib_reader.specs.Names.{entry_of}
use Rattle.rib_reader.specs.Entries.{plain}
use Rattle.rib_reader.proofs.names.find.Given as goal

abbrev pub invariant-loop-entry : goal.invariant-loop-entry
invariant-loop-entry g l = entry_of (map plain (drop l.entry-index l.entries)) l.name ≡ entry_of (map plain l.entries) l.name
