use Rattle.std.proofs.Common.{◌≡◌, ◌≤◌, ap, arith, slice_index_or}
use Rattle.fixed_math.specs.Spots.{PixelRect}
use Rattle.buckets.specs.TileWalk.{bucket_of}
use Rattle.buckets.proofs.BucketRows.{part_of}
use Rattle.buckets.proofs.row_band.new_row.Goals as goal

pub overflow_sub-bottom : goal.overflow_sub-bottom
overflow_sub-bottom g c =
    let d = g.begun.drawing in
    let down = (part_of d c.args.at c.requires.drawn.drawable c.requires.at').down in
    let top : slice_index_or c.bucket_at.result 1 0 ≡ (bucket_of d c.args.at).top = ap (λ (r : PixelRect). r.top) c.bucket_at.ensures in
    let bottom : slice_index_or c.bucket_at.result 3 0 ≡ (bucket_of d c.args.at).bottom = ap (λ (r : PixelRect). r.bottom) c.bucket_at.ensures in
    let order : slice_index_or c.bucket_at.result 1 0 ≤ slice_index_or c.bucket_at.result 3 0 = omega (arith, down, top, bottom) in
    order
