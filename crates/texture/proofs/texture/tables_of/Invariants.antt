use Rattle.std.proofs.Common.{◌+◌}
use Rattle.texture.specs.Tables.{AreFirst}
use Rattle.texture.proofs.texture.tables_of.Given as goal

abbrev pub invariant-loop-i : goal.invariant-loop-i
invariant-loop-i l = AreFirst (l.i + 1) l.image l.tables.items
