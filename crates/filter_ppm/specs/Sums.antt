-- Sums over the samples of a tile, for each pixel of a rectangle.
use Rattle.std.specs.Prelude.{ℕ, ◌+◌, ◌-◌, ◌*◌, ◌<◌, ◌≤◌, ◌≡◌, ℤ, pos, ◌+ℤ◌, ◌*ℤ◌, ◌≤ℤ◌, unsigned_abs, List, length, get_or, map}
use Rattle.std.specs.List.{range_with_len}
use Rattle.fixed_math.specs.declared.vec3.Vec3.{Vec3}
use Rattle.fixed_math.specs.Spots.{PixelRect}
use Rattle.filter_ppm.specs.declared.rect.Rect.{Rect}
use Rattle.scene.specs.Settings.{OptionValues}
use Rattle.hider.specs.declared.sample.Sample.{Sample}
use Rattle.hider.specs.declared.sample_grid.SampleGrid.{SampleGrid}
use Rattle.hider.specs.Tiles.{sample_of}
use Rattle.filter_ppm.specs.declared.total.Total.{Total}
use Rattle.filter_ppm.specs.declared.shown.ShownSample.{ShownSample}
use Rattle.filter_ppm.specs.Weight.{weight_at}
use Rattle.filter_ppm.specs.Mean.{sum_of, mean_part, weighted_mean}

-- sums over nothing
abbrev pub none : Total
none = record { weight = pos 0; x = pos 0; y = pos 0; z = pos 0 }

-- with one more colour c of weight w
unfoldable pub with_weighed : Total → ℤ → Vec3 → Total
with_weighed t w c = record { weight = t.weight +ℤ w; x = t.x +ℤ w *ℤ c.x; y = t.y +ℤ w *ℤ c.y; z = t.z +ℤ w *ℤ c.z }

abbrev pub mean_of : Total → Vec3
mean_of t = record { x = mean_part t.x t.weight; y = mean_part t.y t.weight; z = mean_part t.z t.weight }

-- sums over at most n samples, of weights that aren't below 0
pub record IsOver (n : ℕ) (t : Total) : Type 0 where
  pub low : pos 0 ≤ℤ t.weight
  pub high : unsigned_abs t.weight ≤ n * 2147483647
  pub x_high : unsigned_abs t.x ≤ unsigned_abs t.weight * 2147483647
  pub y_high : unsigned_abs t.y ≤ unsigned_abs t.weight * 2147483647
  pub z_high : unsigned_abs t.z ≤ unsigned_abs t.weight * 2147483647

-- the sums over the samples ss, each weighed by its place about the middle of the pixel x, y
pub record AreSums (o : OptionValues) (colour : Sample → Vec3) (x y : ℕ) (ss : List Sample) (t : Total) : Type 0 where
  pub weights : t.weight ≡ sum_of (λ s. weight_at o x y s.place) ss
  pub xs : t.x ≡ sum_of (λ s. weight_at o x y s.place *ℤ (colour s).x) ss
  pub ys : t.y ≡ sum_of (λ s. weight_at o x y s.place *ℤ (colour s).y) ss
  pub zs : t.z ≡ sum_of (λ s. weight_at o x y s.place *ℤ (colour s).z) ss

-- ---- the sums of the pixels of a rectangle, by rows
-- some pixels within 4096 by 4096
pub record IsRect (r : Rect) : Type 0 where
  pub across : r.left < r.right
  pub right : r.right ≤ 4096
  pub down : r.top < r.bottom
  pub bottom : r.bottom ≤ 4096

-- a rectangle of pixels, as the code has it
abbrev pub as_rect : PixelRect → Rect
as_rect r = record { left = r.left; top = r.top; right = r.right; bottom = r.bottom }

-- sums of all its pixels
abbrev pub HasTotals : Rect → List Total → Type 0
HasTotals r totals = length totals ≡ (r.bottom - r.top) * (r.right - r.left)

abbrev pub row_start : Rect → ℕ → ℕ
row_start r y = (y - r.top) * (r.right - r.left)

abbrev pub total_at : Rect → List Total → ℕ → ℕ → Total
total_at r totals x y = get_or totals (row_start r y + (x - r.left)) none

-- at each pixel of the rectangle's row y the sample is added, by its weight for the pixel
abbrev pub AddsInRow : OptionValues → ShownSample → Rect → ℕ → List Total → List Total → Type 0
AddsInRow o s r y old new = (x : ℕ) → r.left ≤ x → x < r.right → total_at r new x y ≡ with_weighed (total_at r old x y) (weight_at o x y s.place) s.colour

-- at each pixel of the rectangle
abbrev pub AddsSample : OptionValues → ShownSample → Rect → List Total → List Total → Type 0
AddsSample o s r old new = (y : ℕ) → r.top ≤ y → y < r.bottom → AddsInRow o s r y old new

-- each sum of the rectangle is over at most n samples
abbrev pub AreOver : ℕ → Rect → List Total → Type 0
AreOver n r totals = (x y : ℕ) → r.left ≤ x → x < r.right → r.top ≤ y → y < r.bottom → IsOver n (total_at r totals x y)

-- each is over the first n samples of a grid
abbrev pub first_samples : SampleGrid → ℕ → List Sample
first_samples g n = map (sample_of g) (range_with_len 0 n)

abbrev pub AreTotals : OptionValues → (Sample → Vec3) → SampleGrid → ℕ → Rect → List Total → Type 0
AreTotals o colour g n r totals = (x y : ℕ) → r.left ≤ x → x < r.right → r.top ≤ y → y < r.bottom → AreSums o colour x y (first_samples g n) (total_at r totals x y)

-- the mean by each is that over these samples
abbrev pub AreMeans : OptionValues → (Sample → Vec3) → SampleGrid → ℕ → Rect → List Total → Type 0
AreMeans o colour g n r totals = (x y : ℕ) → r.left ≤ x → x < r.right → r.top ≤ y → y < r.bottom →
    mean_of (total_at r totals x y) ≡ weighted_mean (λ s. weight_at o x y s.place) colour (first_samples g n)
