use Rattle.std.proofs.Common.{◌≡◌, drop, map}
use Rattle.sl_expressions.specs.Names.{entry_of, plain}
use Rattle.sl_expressions.proofs.names.find.Given as goal

abbrev pub invariant-loop-entry : goal.invariant-loop-entry
invariant-loop-entry g l = entry_of (map plain (drop l.entry-index l.entries)) l.name ≡ entry_of (map plain l.entries) l.name
