-- A frame as the filter sees it: its size and its options, and a sample with its colour.
use Rattle.std.specs.Prelude.{ℕ, ◌*◌, ◌≤◌}
use Rattle.fixed_math.specs.declared.vec3.Vec3.{Vec3}
use Rattle.scene.specs.Settings.{OptionValues, crop_of, IsCrop}
use Rattle.hider.specs.declared.sample.Sample.{Sample}
use Rattle.filter_ppm.specs.declared.shown.ShownSample.{ShownSample}
use Rattle.filter_ppm.specs.Film.{FilmValues}

-- ---- the size of a frame in pixels, and its options
pub record FilmFormat : Type 0 where
  pub width : ℕ
  pub height : ℕ
  pub options : OptionValues

pub record IsFormat (f : FilmFormat) : Type 0 where
  pub some_width : 1 ≤ f.width
  pub most_width : f.width ≤ 4096
  pub some_height : 1 ≤ f.height
  pub most_height : f.height ≤ 4096
  pub crop : IsCrop f.width f.height (crop_of f.options)

-- a frame of that size where each sample has the colour that c gives it
abbrev pub film_with : FilmFormat → (Sample → Vec3) → FilmValues
film_with f c = record { width = f.width; height = f.height; options = f.options; colour = c }

abbrev pub format_of : FilmValues → FilmFormat
format_of f = record { width = f.width; height = f.height; options = f.options }

-- ---- its samples
abbrev pub per_pixel : OptionValues → ℕ
per_pixel o = o.xs * o.ys

-- a sample with its colour
abbrev pub shown_with : (Sample → Vec3) → Sample → ShownSample
shown_with c s = record { place = s.place; colour = c s }
