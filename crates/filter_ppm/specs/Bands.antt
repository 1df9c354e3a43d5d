-- Bands: all pixels of some rows of a picture, and what the samples of a tile tell of them.
use Rattle.std.specs.Prelude.{ℕ, ◌+◌, ◌-◌, ◌*◌, ◌<◌, ◌≤◌, ◌≡◌, ◌⊎◌, min, List, [], get_or, slice_index_or}
use Rattle.fixed_math.specs.Spots.{PixelRect}
use Rattle.fixed_math.specs.Buckets.{widened}
use Rattle.scene.specs.Settings.{OptionValues, crop_of}
use Rattle.hider.specs.declared.sample_grid.SampleGrid.{SampleGrid}
use Rattle.filter_ppm.specs.Weight.{reach}
use Rattle.filter_ppm.specs.Film.{FilmValues, pixel}
use Rattle.filter_ppm.specs.Sampled.{FilmFormat}
use Rattle.filter_ppm.specs.declared.rect.Rect.{Rect}

-- ---- which samples
-- the rectangle with this left, top, right and bottom
abbrev pub rect_with : List ℕ → PixelRect
rect_with r = record { left = slice_index_or r 0 0; top = slice_index_or r 1 0; right = slice_index_or r 2 0; bottom = slice_index_or r 3 0 }

-- the pixels of the picture of a frame
abbrev pub crop_in : FilmFormat → PixelRect
crop_in f = crop_of f.options

-- some of them
pub record IsPartOfPicture (f : FilmFormat) (r : PixelRect) : Type 0 where
  pub left : (crop_in f).left ≤ r.left
  pub across : r.left < r.right
  pub right : r.right ≤ (crop_in f).right
  pub top : (crop_in f).top ≤ r.top
  pub down : r.top < r.bottom
  pub bottom : r.bottom ≤ (crop_in f).bottom

-- the pixels with a sample that may count for a pixel of the rectangle
abbrev pub seen_from : FilmFormat → PixelRect → PixelRect
seen_from f r = widened (reach f.options.wx) (reach f.options.wy) f.width f.height r

-- all samples of a rectangle of pixels
abbrev pub grid_over : PixelRect → OptionValues → SampleGrid
grid_over r o = record { left = r.left; top = r.top; right = r.right; bottom = r.bottom; xs = o.xs; ys = o.ys }

-- the rectangle lies in the frame and has all pixels with a sample that may count for the pixel x, y
pub record HoldsWindow (f : FilmFormat) (r : PixelRect) (x y : ℕ) : Type 0 where
  pub left : r.left ≤ x - reach f.options.wx
  pub right : min (x + reach f.options.wx + 1) f.width ≤ r.right
  pub in_width : r.right ≤ f.width
  pub top : r.top ≤ y - reach f.options.wy
  pub bottom : min (y + reach f.options.wy + 1) f.height ≤ r.bottom
  pub in_height : r.bottom ≤ f.height

-- ---- bands
-- the picture's rows of pixels from `top` to below `bottom`
abbrev pub rows : FilmFormat → ℕ → ℕ → PixelRect
rows f top bottom = record { left = (crop_in f).left; top = top; right = (crop_in f).right; bottom = bottom }

-- the pixel x, y in a band of rows from `top` on, each from `left` to below `right`: its place, and its levels
abbrev pub place_in : ℕ → ℕ → ℕ → ℕ → ℕ → ℕ
place_in left right top x y = (y - top) * (right - left) + (x - left)

-- a pixel's entry in a band, by its place in the frame
abbrev pub entry : ℕ → ℕ → ℕ → List (List ℕ) → ℕ → ℕ → List ℕ
entry left right top band x y = get_or band (place_in left right top x y) []

-- a number isn't from the one to below the other
abbrev pub IsOutside : ℕ → ℕ → ℕ → Type 0
IsOutside first end n = (n < first) ⊎ (end ≤ n)

-- two bands of a rectangle's rows are the same beside it
abbrev pub AreSameBeside : ℕ → ℕ → Rect → List (List ℕ) → List (List ℕ) → Type 0
AreSameBeside left right r old new = (x y : ℕ) → IsOutside r.left r.right x → left ≤ x → x < right → r.top ≤ y → y < r.bottom → entry left right r.top new x y ≡ entry left right r.top old x y

-- in a band of rows of the picture
abbrev pub entry_in : OptionValues → ℕ → List (List ℕ) → ℕ → ℕ → List ℕ
entry_in o top band x y = entry (crop_of o).left (crop_of o).right top band x y

-- in the band of a rectangle's rows, the rectangle's entries are pixels now, and every other one is what it was
pub record PutsPixels (f : FilmValues) (r : PixelRect) (old new : List (List ℕ)) : Type 0 where
  pub inside : (x y : ℕ) → r.left ≤ x → x < r.right → r.top ≤ y → y < r.bottom → entry_in f.options r.top new x y ≡ pixel f x y
  pub beside : (x y : ℕ) → IsOutside r.left r.right x → (crop_of f.options).left ≤ x → x < (crop_of f.options).right → r.top ≤ y → y < r.bottom
      → entry_in f.options r.top new x y ≡ entry_in f.options r.top old x y

-- in a band of the picture's rows from `top` to below `bottom`, the entries of its columns below `right` are pixels
abbrev pub ArePixels : FilmValues → ℕ → ℕ → ℕ → List (List ℕ) → Type 0
ArePixels f top bottom right band = (x y : ℕ) → (crop_of f.options).left ≤ x → x < right → top ≤ y → y < bottom → entry_in f.options top band x y ≡ pixel f x y
