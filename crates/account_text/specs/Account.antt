-- The account of a pixel in JSON.
use Rattle.std.specs.Prelude.{ℕ, ◌^◌, ℤ, pos, Bool, List, [], ◌∷◌, ◌++◌, codes, map}
use Rattle.serde_json.specs.Data.{Data, number, string}
use Rattle.serde_json.specs.Find.{of_integer}
use Rattle.serde_json.specs.Written.{compact_text}
use Rattle.pixel_record.specs.declared.pixel.PixelAccount.{PixelAccount}
use Rattle.pixel_record.specs.declared.pixel.WeightedSums.{WeightedSums}
use Rattle.pixel_record.specs.declared.sample.SampleAccount.{SampleAccount}
use Rattle.account_text.specs.Numbers.{object_of, list_of, count, fixed, wide, num, triple, spot}
use Rattle.account_text.specs.Frame.{frame_json}
use Rattle.account_text.specs.Fragments.{fragments_json}

-- the place of the pixel in the frame
abbrev pub place_json : PixelAccount → Data
place_json a = object_of ((codes "x", count a.x) ∷ (codes "y", count a.y) ∷ [])

-- a sample with its fragments, with the corners of their micropolygons where they are wanted
unfoldable pub sample_json : Bool → SampleAccount → Data
sample_json points s = object_of (
    (codes "colour", triple s.colour) ∷
    (codes "fragments", fragments_json points s.fragments) ∷
    (codes "place", spot s.sample.place) ∷
    (codes "time", fixed 65536 (pos s.sample.time)) ∷
    (codes "weight", num s.weight) ∷ [])

abbrev pub samples_json : Bool → List SampleAccount → Data
samples_json points samples = list_of (map (sample_json points) samples)

-- the sums over the samples: of each channel times the weight, and of the weights
unfoldable pub channels_json : WeightedSums → Data
channels_json s = list_of (wide 4294967296 s.x ∷ wide 4294967296 s.y ∷ wide 4294967296 s.z ∷ [])

unfoldable pub sums_json : WeightedSums → Data
sums_json s = object_of ((codes "colour", channels_json s) ∷ (codes "weight", wide 65536 s.weight) ∷ [])

-- numbers of channels, before and after they are put into the range that is written, and as bytes
abbrev pub whole : ℤ → Data
whole n = number (of_integer n)

abbrev pub rounded_json : List ℤ → Data
rounded_json ns = list_of (map whole ns)

abbrev pub levels_json : List ℕ → Data
levels_json ns = list_of (map count ns)

abbrev pub bytes_json : List ℕ → Data
bytes_json bytes = list_of (map count bytes)

-- the account of a pixel of the scene with that name
unfoldable pub account_json : List ℕ → Bool → PixelAccount → Data
account_json scene points a = object_of (
    (codes "bright", triple a.tones.bright) ∷
    (codes "bytes", bytes_json a.bytes) ∷
    (codes "exposed", triple a.tones.exposed) ∷
    (codes "frame", frame_json a.frame) ∷
    (codes "levels", levels_json a.tones.levels) ∷
    (codes "mean", triple a.tones.mean) ∷
    (codes "pixel", place_json a) ∷
    (codes "rounded", rounded_json a.tones.rounded) ∷
    (codes "samples", samples_json points a.samples) ∷
    (codes "scene", string scene) ∷
    (codes "sums", sums_json a.sums) ∷ [])

-- that as a line of text
unfoldable pub account_text : List ℕ → Bool → PixelAccount → List ℕ
account_text scene points a = compact_text (account_json scene points a) ++ 10 ∷ []
