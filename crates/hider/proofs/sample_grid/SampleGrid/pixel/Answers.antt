use Rattle.std.proofs.Common.{◌≡◌, ℕ, ◌+◌, ◌-◌, ◌*◌, ◌/◌, ◌%◌, ◌<◌, ◌≤◌, arith}
use Rattle.std.specs.Int.{w32}
use mir.Val.{Fits}
use Rattle.std.proofs.Math.Nat.{mod-lt, div-lt_iff_lt-mul, mul_comm}
use Rattle.fixed_math.specs.Spots.{pixel_count}
use Rattle.hider.specs.declared.sample_grid.SampleGrid.{SampleGrid}
use Rattle.hider.specs.Tiles.{IsSampleGrid, rect_of}
use Rattle.hider.proofs.sample_grid.SampleGrid.pixel.Goals as goal

-- pixel p of a grid with w pixels a row
module _ (g : SampleGrid) (p w : ℕ) (valid : IsSampleGrid g) (width : w ≡ g.right - g.left) (wide : 1 ≤ w) where
  column_below : g.left + p % w < 4096
  column_below = let l : p % w < w = mod-lt p wide in omega (arith, l, width, valid.across, valid.right)

  row_below : p < pixel_count (rect_of g) → g.top + p / w < 4096
  row_below inside =
      let turned = mul_comm (g.right - g.left) (g.bottom - g.top) in
      let more : p < (g.bottom - g.top) * w = rw width (omega (arith, inside, turned)) in
      let l : p / w < g.bottom - g.top = (div-lt_iff_lt-mul {k = w} {x = p} {y = g.bottom - g.top} wide).1 more in
      omega (arith, l, valid.down, valid.bottom)

fits_small : (n : ℕ) → n < 4096 → Fits w32 n
fits_small n h = record { fits = omega arith }

second_below : (a b : ℕ) → a + b < 4096 → b < 4096
second_below a b h = omega arith

pub nonzero_rem-x : goal.nonzero_rem-x
nonzero_rem-x c = c.width-width.ensures.some

pub nonzero_div-y : goal.nonzero_div-y
nonzero_div-y c = c.width-width.ensures.some

pub overflow_add-x : goal.overflow_add-x
overflow_add-x c = fits_small _ (column_below c.args.self.now c.args.pixel c.width-width.result c.requires.valid c.width-width.ensures.value c.width-width.ensures.some)

pub overflow_add-y : goal.overflow_add-y
overflow_add-y c = fits_small _ (row_below c.args.self.now c.args.pixel c.width-width.result c.requires.valid c.width-width.ensures.value c.width-width.ensures.some c.requires.inside)

pub overflow_cast-x : goal.overflow_cast-x
overflow_cast-x c = fits_small _ (second_below c.args.self.now.left _ (column_below c.args.self.now c.args.pixel c.width-width.result c.requires.valid c.width-width.ensures.value c.width-width.ensures.some))

pub overflow_cast-y : goal.overflow_cast-y
overflow_cast-y c = fits_small _ (second_below c.args.self.now.top _ (row_below c.args.self.now c.args.pixel c.width-width.result c.requires.valid c.width-width.ensures.value c.width-width.ensures.some c.requires.inside))

pub returns-clause-column : goal.returns-clause-column
returns-clause-column c =
    rw (← c.width-width.ensures.value) (column_below c.args.self.now c.args.pixel c.width-width.result c.requires.valid c.width-width.ensures.value c.width-width.ensures.some)

pub returns-clause-row : goal.returns-clause-row
returns-clause-row c =
    rw (← c.width-width.ensures.value) (row_below c.args.self.now c.args.pixel c.width-width.result c.requires.valid c.width-width.ensures.value c.width-width.ensures.some c.requires.inside)
