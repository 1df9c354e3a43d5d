use Rattle.std.proofs.Common.{◌≡◌, take}
use Rattle.rib_reader.proofs.list_values.copies.Given as goal

abbrev pub invariant-loop-string : goal.invariant-loop-string
invariant-loop-string l = l.all.items ≡ take l.string-index l.strings
