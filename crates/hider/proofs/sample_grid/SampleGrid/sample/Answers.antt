use Rattle.std.proofs.Common.{◌≡◌, ◌∙◌, refl, ℕ, ◌+◌, ◌-◌, ◌*◌, ◌/◌, ◌%◌, ◌<◌, ◌≤◌, arith}
use Rattle.std.specs.Int.{w32}
use mir.Val.{Fits}
use Rattle.std.proofs.Math.Nat.{mod-lt, div-lt_iff_lt-mul, mul_comm}
use Rattle.hider.specs.declared.sample_grid.SampleGrid.{SampleGrid}
use Rattle.hider.specs.Samples.{sample_at, sample_in}
use Rattle.hider.specs.Tiles.{IsSampleGrid, sample_count, sample_of}
use Rattle.hider.proofs.sample_grid.SampleGrid.sample.Goals as goal

row_of : (n k w h : ℕ) → 0 < k → 0 < w → n < w * h * k → n / k / w < h
row_of n k w h sk sw l =
    let pixel : n / k < w * h = (div-lt_iff_lt-mul {k = k} {x = n} {y = w * h} sk).1 l in
    let turned = mul_comm w h in
    (div-lt_iff_lt-mul {k = w} {x = n / k} {y = h} sw).1 (omega (arith, pixel, turned))

cell_below : (n k m : ℕ) → 0 < k → k ≡ m → n % k < m
cell_below n k m s e = let l : n % k < k = mod-lt n s in omega arith

cell_small : (n k : ℕ) → 0 < k → k ≤ 256 → n % k < 4096
cell_small n k s h = let l : n % k < k = mod-lt n s in omega arith

second_below : (a b : ℕ) → a + b < 4096 → b < 4096
second_below a b h = omega arith

-- the sample n of a grid with k samples a pixel and w pixels a row
module _ (g : SampleGrid) (n k w : ℕ) (valid : IsSampleGrid g) (per_pixel : k ≡ g.xs * g.ys) (width : w ≡ g.right - g.left) (some : 1 ≤ k) (wide : 1 ≤ w) where
  column_below : g.left + n / k % w < 4096
  column_below = let l : n / k % w < w = mod-lt (n / k) wide in omega (arith, l, width, valid.across, valid.right)

  row_below : n < sample_count g → g.top + n / k / w < 4096
  row_below inside = let l = row_of n k w (g.bottom - g.top) some wide (rw (per_pixel, width) inside) in omega (arith, l, valid.down, valid.bottom)

  same_sample : sample_at g.xs g.ys (g.left + n / k % w) (g.top + n / k / w) (n % k) ≡ sample_of g n
  unfolding sample_in
  same_sample = rw (per_pixel, width) refl

fits_small : (n : ℕ) → n < 4096 → Fits w32 n
fits_small n h = record { fits = omega arith }

pub nonzero_div-pixel : goal.nonzero_div-pixel
nonzero_div-pixel c = c.per_pixel-per_pixel.ensures.some

pub nonzero_rem-x : goal.nonzero_rem-x
nonzero_rem-x c = c.width-width.ensures.some

pub nonzero_div-y : goal.nonzero_div-y
nonzero_div-y c = c.width-width.ensures.some

pub overflow_add-x : goal.overflow_add-x
overflow_add-x c = fits_small _ (column_below c.args.self.now c.args.n c.per_pixel-per_pixel.result c.width-width.result c.requires.valid c.per_pixel-per_pixel.ensures.value c.width-width.ensures.value c.per_pixel-per_pixel.ensures.some c.width-width.ensures.some)

pub overflow_add-y : goal.overflow_add-y
overflow_add-y c = fits_small _ (row_below c.args.self.now c.args.n c.per_pixel-per_pixel.result c.width-width.result c.requires.valid c.per_pixel-per_pixel.ensures.value c.width-width.ensures.value c.per_pixel-per_pixel.ensures.some c.width-width.ensures.some c.requires.inside)

pub overflow_cast-x : goal.overflow_cast-x
overflow_cast-x c = fits_small _ (second_below c.args.self.now.left _ (column_below c.args.self.now c.args.n c.per_pixel-per_pixel.result c.width-width.result c.requires.valid c.per_pixel-per_pixel.ensures.value c.width-width.ensures.value c.per_pixel-per_pixel.ensures.some c.width-width.ensures.some))

pub overflow_cast-y : goal.overflow_cast-y
overflow_cast-y c = fits_small _ (second_below c.args.self.now.top _ (row_below c.args.self.now c.args.n c.per_pixel-per_pixel.result c.width-width.result c.requires.valid c.per_pixel-per_pixel.ensures.value c.width-width.ensures.value c.per_pixel-per_pixel.ensures.some c.width-width.ensures.some c.requires.inside))

pub overflow_cast-n : goal.overflow_cast-n
overflow_cast-n c = fits_small _ (cell_small c.args.n c.per_pixel-per_pixel.result c.per_pixel-per_pixel.ensures.some c.per_pixel-per_pixel.ensures.most)

pub sample_at-requires : goal.sample_at-requires
sample_at-requires c =
    let k = c.per_pixel-per_pixel in
    let w = c.width-width in
    record {
      x = column_below c.args.self.now c.args.n k.result w.result c.requires.valid k.ensures.value w.ensures.value k.ensures.some w.ensures.some;
      y = row_below c.args.self.now c.args.n k.result w.result c.requires.valid k.ensures.value w.ensures.value k.ensures.some w.ensures.some c.requires.inside;
      xs = c.requires.valid.most_xs;
      ys = c.requires.valid.most_ys;
      cell = cell_below c.args.n k.result (c.args.self.now.xs * c.args.self.now.ys) k.ensures.some k.ensures.value;
    }

pub returns : goal.returns
returns c =
    let k = c.per_pixel-per_pixel in
    let w = c.width-width in
    c.sample_at.ensures ∙ same_sample c.args.self.now c.args.n k.result w.result c.requires.valid k.ensures.value w.ensures.value k.ensures.some w.ensures.some
