-- Places and pixels of the raster.
use Rattle.std.specs.Prelude.{ℕ, ◌+◌, ◌-◌, ◌*◌, ◌/◌, ◌%◌, ◌≤◌, ℤ, unsigned_abs}

-- a place in 1/256 pixel: x to the right and y down, from the left upper corner of the frame
pub record Spot : Type 0 where
  pub x : ℤ
  pub y : ℤ

-- the magnitudes of a place are at most 2 ^ 28
pub record IsOnRaster (s : Spot) : Type 0 where
  pub small_x : unsigned_abs s.x ≤ 268435456
  pub small_y : unsigned_abs s.y ≤ 268435456

-- a rectangle of pixels: from left to below right, and from top to below bottom
pub record PixelRect : Type 0 where
  pub left : ℕ
  pub top : ℕ
  pub right : ℕ
  pub bottom : ℕ

-- all pixels of a frame
abbrev pub whole_frame : ℕ → ℕ → PixelRect
whole_frame width height = record { left = 0; top = 0; right = width; bottom = height }

-- how many pixels a rectangle has
abbrev pub pixel_count : PixelRect → ℕ
pixel_count r = (r.right - r.left) * (r.bottom - r.top)

-- the column and the row of pixel p of a rectangle, by rows
abbrev pub pixel_x : PixelRect → ℕ → ℕ
pixel_x r p = r.left + p % (r.right - r.left)

-- the row of a rectangle's pixel p, of which pixels go by rows
abbrev pub pixel_y : PixelRect → ℕ → ℕ
pixel_y r p = r.top + p / (r.right - r.left)
