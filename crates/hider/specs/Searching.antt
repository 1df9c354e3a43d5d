-- Where a search for samples may pass over pixels.
use Rattle.std.specs.Prelude.{ℕ, ◌+◌, ◌*◌, ◌/◌, ◌<◌, ◌≤◌, ◌⊎◌, ◌≤ℤ◌, ◌<ℤ◌, ◌≡◌, pos, List, slice_index_or, Option, None}
use Rattle.fixed_math.specs.Spots.{Spot, pixel_x, pixel_y}
use Rattle.hider.specs.declared.bounds.Bounds.{Bounds}
use Rattle.hider.specs.declared.fragment.Fragment.{Fragment}
use Rattle.hider.specs.declared.sample.Sample.{Sample}
use Rattle.hider.specs.declared.sample_grid.SampleGrid.{SampleGrid}
use Rattle.hider.specs.Tiles.{rect_of, sample_count, sample_of}

-- a place outside a box on the raster
abbrev pub LiesOutside : Bounds → Spot → Type 0
LiesOutside b s = (s.x <ℤ b.left) ⊎ (b.right <ℤ s.x) ⊎ (s.y <ℤ b.top) ⊎ (b.bottom <ℤ s.y)

-- nothing shows at places outside a box, at the times of the shutter's interval
abbrev pub StaysInside : Bounds → (Sample → Option Fragment) → Type 0
StaysInside b shown = (s : Sample) → s.time ≤ 65535 → LiesOutside b s.place → shown s ≡ None

-- nothing shows at places outside a box, from one time to another
abbrev pub StaysInsideFrom : ℕ → ℕ → Bounds → (Sample → Option Fragment) → Type 0
StaysInsideFrom from to b shown = (s : Sample) → from ≤ s.time → s.time ≤ to → LiesOutside b s.place → shown s ≡ None

-- for each of eight steps of the shutter's interval a box outside which nothing shows in that step
abbrev pub StaysInSteps : List Bounds → (Sample → Option Fragment) → Type 0
StaysInSteps boxes shown = (k : ℕ) (d : Bounds) → k < 8 → StaysInsideFrom (8192 * k) (8192 * k + 8191) (slice_index_or boxes k d) shown

-- a box beyond one side of the grid's pixels
abbrev pub IsBeside : Bounds → SampleGrid → Type 0
IsBeside b g = (b.right <ℤ pos (256 * g.left)) ⊎ (pos (256 * g.right) ≤ℤ b.left) ⊎ (b.bottom <ℤ pos (256 * g.top)) ⊎ (pos (256 * g.bottom) ≤ℤ b.top)

-- the pixel of sample n
abbrev pub column_of : SampleGrid → ℕ → ℕ
column_of g n = pixel_x (rect_of g) (n / (g.xs * g.ys))

-- the row of pixels in which sample n lies
abbrev pub row_of : SampleGrid → ℕ → ℕ
row_of g n = pixel_y (rect_of g) (n / (g.xs * g.ys))

-- a part of the pixels, which may be none
pub record IsPartOf (part g : SampleGrid) : Type 0 where
  pub left : g.left ≤ part.left
  pub across : part.left ≤ part.right
  pub right : part.right ≤ g.right
  pub top : g.top ≤ part.top
  pub down : part.top ≤ part.bottom
  pub bottom : part.bottom ≤ g.bottom

-- the pixel of sample n isn't one of them
abbrev pub LiesBeside : SampleGrid → SampleGrid → ℕ → Type 0
LiesBeside part g n = (column_of g n < part.left) ⊎ (part.right ≤ column_of g n) ⊎ (row_of g n < part.top) ⊎ (part.bottom ≤ row_of g n)

-- nothing shows at the samples of other pixels
abbrev pub StaysIn : SampleGrid → SampleGrid → (Sample → Option Fragment) → Type 0
StaysIn part g shown = (n : ℕ) → n < sample_count g → LiesBeside part g n → shown (sample_of g n) ≡ None

-- a box meets no other pixels of the grid
pub record IsNear (b : Bounds) (part g : SampleGrid) : Type 0 where
  pub left : (p : ℕ) → p < g.right → p < part.left → g.left ≤ p → pos (256 * p + 256) ≤ℤ b.left
  pub right : (p : ℕ) → p < g.right → part.right ≤ p → b.right <ℤ pos (256 * p)
  pub top : (p : ℕ) → p < g.bottom → p < part.top → g.top ≤ p → pos (256 * p + 256) ≤ℤ b.top
  pub bottom : (p : ℕ) → p < g.bottom → part.bottom ≤ p → b.bottom <ℤ pos (256 * p)
