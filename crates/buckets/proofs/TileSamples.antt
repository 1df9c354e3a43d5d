-- How many samples a tile has.
use Rattle.std.proofs.Common.{◌≡◌, ℕ, ◌+◌, ◌-◌, ◌*◌, ◌≤◌, min, arith}
use Rattle.std.proofs.Math.Nat.{mul-le-mul, mul-le-mul_right}
use Rattle.fixed_math.specs.Spots.{pixel_count}
use Rattle.filter_ppm.specs.Weight.{reach}
use Rattle.hider.specs.Tiles.{rect_of, sample_count}
use Rattle.buckets.specs.TileWalk.{Drawing, bucket_of, picture_rect, tile_grid}
use Rattle.buckets.specs.TileLaws.{samples_about}

-- so many pixels from a place on, cut at an end, and so many before and behind them, cut at another end
along : (place side end reached size : ℕ) → min (min (place + side) end + reached) size - (place - reached) ≤ side + 2 * reached
along place side end reached size = omega arith

pub tiles_small : (d : Drawing) (n : ℕ) → sample_count (tile_grid d n) ≤ samples_about d
unfolding tile_grid
tiles_small d n =
    let o = d.frame.options in
    let b = bucket_of d n in
    let r = picture_rect d.frame in
    mul-le-mul_right (o.xs * o.ys)
    (mul-le-mul (along b.left d.side r.right (reach o.wx) d.frame.camera.width) (along b.top d.side r.bottom (reach o.wy) d.frame.camera.height))
