use Rattle.std.proofs.Common.{arith}
use Rattle.texture.proofs.Filled.{count_more}
use Rattle.texture.proofs.cache.Cache.tiles.Goals as goal

pub loop-i-preserved : goal.loop-i-preserved
loop-i-preserved c =
    let low = c.loop-i.invariant.most in
    let one = c.tile_count-count.ensures.most in
    record {
      value = count_more c.self.inside.slots.items c.loop-i.i c.loop-i.count c.tile_count-count.result c.index-slot.result.now c.index-slot.result.now (omega arith) c.index-slot.ensures c.tile_count-count.ensures.value c.loop-i.invariant.value;
      most = omega (arith, low, one);
    }
