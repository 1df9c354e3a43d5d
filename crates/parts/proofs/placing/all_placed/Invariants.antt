use Rattle.std.proofs.Common.{◌≡◌, take}
use Rattle.parts.specs.Placing.{placed_from}
use Rattle.parts.proofs.placing.all_placed.Given as goal

abbrev pub invariant-loop-i : goal.invariant-loop-i
invariant-loop-i l = l.all.items ≡ placed_from 0 (take l.i l.parts)
