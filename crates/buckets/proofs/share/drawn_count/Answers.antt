use Rattle.std.proofs.Common.{◌≡◌, ◌<◌, arith, ◌∙◌, ap, length, ℕ}
use Rattle.buckets.specs.Shares.{numbers_in}
use Rattle.buckets.specs.TileWalk.{tile_count}
use Rattle.buckets.proofs.BucketRows.{few_tiles}
use Rattle.buckets.proofs.Skipping.{counts_first, counts_next}
use Rattle.buckets.proofs.share.drawn_count.Goals as goal

pub loop-at-init : goal.loop-at-init
loop-at-init g c =
    let f = c.first_tile-at.ensures in
    record { within = f.within; drawn = f.drawn; few = omega arith; counts = counts_first g.begun.drawing c.first_tile-at.result f }

pub overflow_add-count : goal.overflow_add-count
overflow_add-count g c =
    let few = few_tiles g.begun.drawing c.requires.drawable in
    let i = c.loop-at.invariant in
    omega (arith, few, i.few, i.within)

pub tile_behind-at-requires : goal.tile_behind-at-requires
tile_behind-at-requires g c =
    let q = c.requires in
    let low : c.loop-at.at < tile_count g.begun.drawing = (let t = c.loop-at-test.true in let n = q.tiles in omega (arith, t, n)) in
    (record { drawn = q; at' = low }, c.loop-at.invariant.drawn low)

pub loop-at-preserved : goal.loop-at-preserved
loop-at-preserved g c =
    let q = c.requires in
    let d = g.begun.drawing in
    let i = c.loop-at.invariant in
    let low : c.loop-at.at < tile_count d = (let t = c.loop-at-test.true in let n = q.tiles in omega (arith, t, n)) in
    let f = c.tile_behind-at.ensures in
    let from = f.from in
    record { within = f.within; drawn = f.drawn; few = omega (arith, i.few, from); counts = counts_next d c.loop-at.at c.tile_behind-at.result c.loop-at.count (i.drawn low) f i.counts }

pub returns : goal.returns
returns g c =
    let q = c.requires in
    let i = c.loop-at.invariant in
    let is : c.loop-at.at ≡ tile_count g.begun.drawing = (let t = c.loop-at-test.false in let n = q.tiles in let w = i.within in omega (arith, t, n, w)) in
    i.counts ∙ ap (λ (k : ℕ). length (numbers_in g.begun.drawing.share k)) is
