-- The picture of a frame: of all of it, or of a part.
use Rattle.std.specs.Prelude.{ℕ, ◌-◌, List, ◌++◌, map}
use Rattle.std.specs.List.{range_with_len}
use Rattle.fixed_math.specs.declared.vec3.Vec3.{Vec3}
use Rattle.fixed_math.specs.Spots.{PixelRect, whole_frame, pixel_count, pixel_x, pixel_y}
use Rattle.scene.specs.Settings.{OptionValues, crop_of}
use Rattle.hider.specs.Samples.{samples_in}
use Rattle.hider.specs.declared.sample.Sample.{Sample}
use Rattle.filter_ppm.specs.Weight.{weight_at}
use Rattle.filter_ppm.specs.Mean.{weighted_mean}
use Rattle.filter_ppm.specs.Levels.{levels, header, band}

-- a frame of width by height pixels, its options, and the colour of each sample
pub record FilmValues : Type 0 where
  pub width : ℕ
  pub height : ℕ
  pub options : OptionValues
  pub colour : Sample → Vec3

-- all samples of the frame
abbrev pub samples : FilmValues → List Sample
samples f = samples_in f.options.xs f.options.ys (whole_frame f.width f.height)

-- the pixel x, y: the mean of the colours of all samples of the frame, each weighed by its place about the pixel's middle,
-- exposed and quantized
unfoldable pub pixel : FilmValues → ℕ → ℕ → List ℕ
pixel f x y = levels f.options (weighted_mean (λ s. weight_at f.options x y s.place) f.colour (samples f))

-- the pixels of a rectangle, by rows from the top
abbrev pub pixels : FilmValues → PixelRect → List (List ℕ)
pixels f r = map (λ p. pixel f (pixel_x r p) (pixel_y r p)) (range_with_len 0 (pixel_count r))

-- the bytes of a picture that has the pixels of a rectangle of the frame
abbrev pub picture_in : FilmValues → PixelRect → List ℕ
picture_in f r = header (r.right - r.left) (r.bottom - r.top) f.options ++ band f.options.one (pixels f r)

-- the bytes of the picture, which has the pixels of the crop
abbrev pub picture : FilmValues → List ℕ
picture f = picture_in f (crop_of f.options)
