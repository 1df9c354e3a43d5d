-- The samples of a tile lie on the raster.
use Rattle.std.proofs.Common.{◌≡◌, ℕ, ◌+◌, ◌-◌, ◌*◌, ◌/◌, ◌%◌, ◌<◌, arith, unsigned_abs}
use Rattle.std.specs.Prelude.{ℤ, pos, negsuc, ◌≤◌, ◌≤ℤ◌, ◌<ℤ◌}
use Rattle.std.proofs.lemmas.Int.{ints}
use Rattle.std.proofs.Math.Nat.{mod-lt, mul_comm}
use Rattle.fixed_math.specs.Spots.{IsOnRaster}
use Rattle.hider.specs.declared.sample_grid.SampleGrid.{SampleGrid}
use Rattle.hider.specs.Samples.{sample_in}
use Rattle.hider.specs.Tiles.{IsSampleGrid, sample_of, sample_count}
use Rattle.hider.proofs.Pixels.{sample_inside}
use Rattle.hider.proofs.Rows.{some_samples}
use Rattle.filter_ppm.proofs.Grids.{before_pixel}

small : (z : ℤ) (p : ℕ) → p < 4096 → pos (256 * p) ≤ℤ z → z <ℤ pos (256 * p + 256) → unsigned_abs z ≤ 268435456
small (pos n) p h l u = omega (arith, ints, h, l, u)
small (negsuc n) p h l u = absurd (omega (arith, ints, l))

pub on_raster : (g : SampleGrid) (n : ℕ) → IsSampleGrid g → n < sample_count g → IsOnRaster (sample_of g n).place
unfolding sample_in
on_raster g n v h =
    let k = g.xs * g.ys in
    let w = g.right - g.left in
    let t = g.bottom - g.top in
    let across = v.across in
    let right = v.right in
    let bottom = v.bottom in
    let some = some_samples g v in
    let wide : 0 < w = omega (arith, across) in
    let column : n / k % w < w = mod-lt (n / k) wide in
    let pixel : n / k < w * t = before_pixel n k (w * t) some h in
    let turned : w * t ≡ t * w = mul_comm w t in
    let row : n / k / w < t = before_pixel (n / k) w t wide (omega (arith, pixel, turned)) in
    let i = sample_inside g.xs g.ys (g.left + n / k % w) (g.top + n / k / w) (n % k) (mod-lt n some) in
    record {
      small_x = small _ (g.left + n / k % w) (omega (arith, column, right)) i.left i.right;
      small_y = small _ (g.top + n / k / w) (omega (arith, row, bottom)) i.top i.bottom;
    }
