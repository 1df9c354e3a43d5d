use Rattle.texture.proofs.Filled.{IsClearedTo}
use Rattle.texture.proofs.cache.Slot.take_up.Given as goal

abbrev pub invariant-loop-i : goal.invariant-loop-i
invariant-loop-i l = IsClearedTo l.i l.self-inside.texels.items
