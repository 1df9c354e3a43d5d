-- The options of a picture.
use Rattle.std.specs.Prelude.{ℕ, ◌≤◌, ◌<◌, ℤ, pos, ◌<ℤ◌, List, slice_index_or}
use Rattle.fixed_math.specs.Spots.{PixelRect}
use Rattle.scene.specs.declared.filter.Filter.{Filter}

-- the samples across and down a pixel; the pixel filter and its widths in 1/256 pixel; exposure; the greatest value
-- of a channel, and the limits into which it is put; the left, top, right and bottom of the pixels that the picture has
pub record OptionValues : Type 0 where
  pub xs : ℕ
  pub ys : ℕ
  pub filter : Filter
  pub wx : ℕ
  pub wy : ℕ
  pub gain : ℤ
  pub gamma : ℤ
  pub one : ℕ
  pub min : ℕ
  pub max : ℕ
  pub crop : List ℕ

-- options within their ranges
pub record AreOptions (o : OptionValues) : Type 0 where
  pub some_across : 1 ≤ o.xs
  pub most_across : o.xs ≤ 16
  pub some_down : 1 ≤ o.ys
  pub most_down : o.ys ≤ 16
  pub some_width : 1 ≤ o.wx
  pub most_width : o.wx ≤ 4096
  pub some_height : 1 ≤ o.wy
  pub most_height : o.wy ≤ 4096
  pub gamma_above : pos 0 <ℤ o.gamma
  pub one_above : 1 ≤ o.one
  pub two_bytes : o.one ≤ 65535
  pub order : o.min ≤ o.max
  pub within : o.max ≤ o.one

-- the pixels of the frame that the picture has
abbrev pub crop_of : OptionValues → PixelRect
crop_of o = record { left = slice_index_or o.crop 0 0; top = slice_index_or o.crop 1 0; right = slice_index_or o.crop 2 0; bottom = slice_index_or o.crop 3 0 }

-- some pixels of a frame of that width and height
pub record IsCrop (width height : ℕ) (r : PixelRect) : Type 0 where
  pub across : r.left < r.right
  pub in_width : r.right ≤ width
  pub down : r.top < r.bottom
  pub in_height : r.bottom ≤ height
