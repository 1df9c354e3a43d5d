use Rattle.std.proofs.Common.{arith}
use Rattle.texture.proofs.Filled.{cleared_all}
use Rattle.texture.proofs.cache.Slot.take_up.Goals as goal

pub returns-clause-none : goal.returns-clause-none
returns-clause-none c = let low = c.loop-i-test.false in cleared_all c.loop-i.i c.loop-i.self-inside.texels.items (omega (arith, low)) c.loop-i.invariant
