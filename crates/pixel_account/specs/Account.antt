-- The account of a pixel of a frame's picture: what each of its numbers is, by the definitions of the picture.
use Rattle.std.specs.Prelude.{◌≡◌, ℕ, ◌+◌, ◌<◌, ℤ, pos, ◌-ℤ◌, ◌*ℤ◌, not, Bool, List, [], ◌∷◌, All, Some, map, take, length, filter, slice_get, slice_index_or}
use Rattle.std.specs.Ordering.{int_eq}
use Rattle.fixed_math.specs.declared.vec3.Vec3.{Vec3}
use Rattle.fixed_math.specs.declared.vec3.Axis.{Axis}
use Rattle.fixed_math.specs.Axes.{part_of, by_axes}
use Rattle.fixed_math.specs.Fixed.{mul}
use Rattle.fixed_math.specs.Spots.{PixelRect}
use Rattle.scene.specs.Scene.{PrimValue, FrameValue}
use Rattle.scene.specs.Settings.{OptionValues}
use Rattle.shader_binding.specs.Sets.{AcceptedValue}
use Rattle.hider.specs.declared.fragment.Fragment.{Fragment}
use Rattle.hider.specs.declared.sample.Sample.{Sample}
use Rattle.hider.specs.Composite.{composite, cut}
use Rattle.hider.specs.Fragments.{fragments}
use Rattle.hider.specs.Samples.{samples_in}
use Rattle.filter_ppm.specs.Weight.{weight_at}
use Rattle.filter_ppm.specs.Mean.{sum_of, weighted_mean}
use Rattle.filter_ppm.specs.Levels.{exposed, level, pixel_bytes}
use Rattle.filter_ppm.specs.Film.{samples, pixel}
use Rattle.filter_ppm.specs.Bands.{seen_from}
use Rattle.buckets.specs.Pictures.{micropolygons, film_of}
use Rattle.buckets.specs.TileWalk.{format_in}
use Rattle.pixel_record.specs.declared.frame.FrameAccount.{FrameAccount}
use Rattle.pixel_record.specs.declared.fragment.FragmentAccount.{FragmentAccount}
use Rattle.pixel_record.specs.declared.sample.SampleAccount.{SampleAccount}
use Rattle.pixel_record.specs.declared.pixel.WeightedSums.{WeightedSums}
use Rattle.pixel_record.specs.declared.pixel.Tones.{Tones}
use Rattle.pixel_record.specs.declared.pixel.PixelAccount.{PixelAccount}
use Rattle.pixel_account.specs.Origins.{IsPrimitive, IsOfCell}

-- ---- the samples that count for the pixel x, y
-- the pixels within the filter's reach
abbrev pub window : FrameValue → ℕ → ℕ → PixelRect
window f x y = seen_from (format_in f) (record { left = x; top = y; right = x + 1; bottom = y + 1 })

-- how much a sample counts
abbrev pub weight_for : OptionValues → ℕ → ℕ → Sample → ℤ
weight_for o x y s = weight_at o x y s.place

unfoldable pub counts_for : OptionValues → ℕ → ℕ → Sample → Bool
counts_for o x y s = not (int_eq (weight_for o x y s) (pos 0))

-- the samples of a rectangle of pixels, by rows, whose weight isn't 0
unfoldable pub counting_in : OptionValues → PixelRect → ℕ → ℕ → List Sample
counting_in o r x y = filter (counts_for o x y) (samples_in o.xs o.ys r)

abbrev pub counting : FrameValue → ℕ → ℕ → List Sample
counting f x y = counting_in f.options (window f x y) x y

-- ---- what a sample shows
-- the fragments of all micropolygons of the frame, from the nearest to the first opaque one
unfoldable pub shown_at : AcceptedValue → FrameValue → Sample → List Fragment
shown_at a f s = cut (fragments f.camera (micropolygons a f) s)

-- one channel of what passes through fragments, of `passed` that passes before them
abbrev pub passed_from : Axis → ℤ → List Fragment → ℤ
passed_from i passed [] = passed
passed_from i passed (g ∷ gs) = passed_from i (mul passed (pos 65536 -ℤ part_of i g.opacity)) gs

unfoldable pub passed_through : List Fragment → Vec3
passed_through gs = by_axes (λ i. passed_from i (pos 65536) gs)

abbrev pub fragments_of : List FragmentAccount → List Fragment
fragments_of xs = map (λ x. x.fragment) xs

-- what is told of a fragment: its primitive and its cell
pub record IsFragment (a : AcceptedValue) (f : FrameValue) (s : Sample) (x : FragmentAccount) : Type 0 where
  pub primitive : (prim : PrimValue) → slice_get f.prims x.cell.piece.prim ≡ Some prim → IsPrimitive a.scene.uses prim x.cell.piece.prim x.primitive
  pub origin : IsOfCell a f s x.cell x.seen x.fragment

-- with each goes what it and those before it make together
abbrev pub AreLaid : List FragmentAccount → Type 0
AreLaid xs = (k : ℕ) (d : FragmentAccount) → k < length xs →
    let front = take (k + 1) (fragments_of xs) in
    let x = slice_index_or xs k d in
    (x.colour ≡ composite front) × (x.passed ≡ passed_through front)

pub record IsSample (a : AcceptedValue) (f : FrameValue) (x y : ℕ) (s : SampleAccount) : Type 0 where
  pub weight : s.weight ≡ weight_for f.options x y s.sample
  pub shown : fragments_of s.fragments ≡ shown_at a f s.sample
  pub each : All (IsFragment a f s.sample) s.fragments
  pub laid : AreLaid s.fragments
  pub colour : s.colour ≡ (film_of a f).colour s.sample

-- ---- from the samples to the bytes
-- the sum of a number of samples over those that count, each times its weight
abbrev pub weighed : FrameValue → ℕ → ℕ → (Sample → ℤ) → ℤ
weighed f x y g = sum_of (λ s. weight_for f.options x y s *ℤ g s) (counting f x y)

pub record AreSums (a : AcceptedValue) (f : FrameValue) (x y : ℕ) (t : WeightedSums) : Type 0 where
  pub weight : t.weight ≡ sum_of (weight_for f.options x y) (counting f x y)
  pub red : t.x ≡ weighed f x y (λ s. ((film_of a f).colour s).x)
  pub green : t.y ≡ weighed f x y (λ s. ((film_of a f).colour s).y)
  pub blue : t.z ≡ weighed f x y (λ s. ((film_of a f).colour s).z)

-- one colour times the gain
abbrev pub brightened : OptionValues → Vec3 → Vec3
brightened o c = by_axes (λ i. mul (part_of i c) o.gain)

-- the mean is that over all samples of the frame, and so the numbers are the pixel's
pub record AreTones (a : AcceptedValue) (f : FrameValue) (x y : ℕ) (t : Tones) : Type 0 where
  pub mean : t.mean ≡ weighted_mean (weight_for f.options x y) (film_of a f).colour (samples (film_of a f))
  pub bright : t.bright ≡ brightened f.options t.mean
  pub exposed : t.exposed ≡ exposed f.options t.mean
  pub rounded : t.rounded ≡ level f.options.one t.exposed.x ∷ level f.options.one t.exposed.y ∷ level f.options.one t.exposed.z ∷ []
  pub levels : t.levels ≡ pixel (film_of a f) x y

pub record IsFrameAccount (f : FrameValue) (n : ℕ) (r : FrameAccount) : Type 0 where
  pub number : r.number ≡ n
  pub file : r.file ≡ f.name
  pub width : r.width ≡ f.camera.width
  pub height : r.height ≡ f.camera.height
  pub options : r.options ≡ f.options

-- the account of the pixel x, y of frame n of an accepted scene
pub record IsAccount (a : AcceptedValue) (f : FrameValue) (n x y : ℕ) (r : PixelAccount) : Type 0 where
  pub frame : IsFrameAccount f n r.frame
  pub column : r.x ≡ x
  pub row : r.y ≡ y
  pub counting : map (λ s. s.sample) r.samples ≡ counting f x y
  pub samples : All (IsSample a f x y) r.samples
  pub sums : AreSums a f x y r.sums
  pub tones : AreTones a f x y r.tones
  pub bytes : r.bytes ≡ pixel_bytes f.options.one (pixel (film_of a f) x y)
