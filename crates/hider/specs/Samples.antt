-- Samples: where and when the picture is looked at.
use Rattle.std.specs.Prelude.{ℕ, ◌*◌, ◌/◌, ◌%◌, pos, List, map}
use Rattle.std.specs.List.{range_with_len}
use Rattle.fixed_math.specs.Spots.{PixelRect, pixel_x, pixel_y, pixel_count}
use Rattle.sample_pattern.specs.Pattern.{place_x, place_y, time}
use Rattle.hider.specs.declared.sample.Sample.{Sample}

-- the sample of cell c of the pixel x, y, which has xs by ys of them
unfoldable pub sample_at : ℕ → ℕ → ℕ → ℕ → ℕ → Sample
sample_at xs ys x y c = record { place = record { x = pos (place_x x y c xs); y = pos (place_y x y c xs ys) }; time = time x y c }

-- sample n of a rectangle of pixels, k a pixel: that of cell n mod k of pixel n / k
unfoldable pub sample_in : ℕ → ℕ → PixelRect → ℕ → Sample
sample_in xs ys r n = let p = n / (xs * ys) in sample_at xs ys (pixel_x r p) (pixel_y r p) (n % (xs * ys))

-- all samples of a rectangle of pixels
abbrev pub samples_in : ℕ → ℕ → PixelRect → List Sample
samples_in xs ys r = map (sample_in xs ys r) (range_with_len 0 (pixel_count r * (xs * ys)))
