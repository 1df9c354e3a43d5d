-- The frame of a pixel in JSON.
use Rattle.std.specs.Prelude.{ℕ, pos, List, [], ◌∷◌, codes}
use Rattle.fixed_math.specs.Spots.{PixelRect}
use Rattle.scene.specs.Settings.{OptionValues, crop_of}
use Rattle.scene.specs.declared.filter.Filter.{Filter}
use Rattle.scene.specs.declared.filter.Filter.TheVariants.{Box, Triangle, Gaussian}
use Rattle.serde_json.specs.Data.{Data, string}
use Rattle.pixel_record.specs.declared.frame.FrameAccount.{FrameAccount}
use Rattle.account_text.specs.Numbers.{object_of, count, fixed, num}

-- the pixels of the picture
abbrev pub crop_json : PixelRect → Data
crop_json r = object_of ((codes "bottom", count r.bottom) ∷ (codes "left", count r.left) ∷ (codes "right", count r.right) ∷ (codes "top", count r.top) ∷ [])

-- the samples of a pixel, across and down
abbrev pub samples_json : OptionValues → Data
samples_json o = object_of ((codes "across", count o.xs) ∷ (codes "down", count o.ys) ∷ [])

-- the name of a filter in a scene (RenderMan Interface 3.2, section 4.1.3)
abbrev pub filter_name : Filter → List ℕ
filter_name Box = codes "box"
filter_name Triangle = codes "triangle"
filter_name Gaussian = codes "gaussian"

-- the filter with its widths in pixels
unfoldable pub filter_json : OptionValues → Data
filter_json o = object_of ((codes "across", fixed 256 (pos o.wx)) ∷ (codes "down", fixed 256 (pos o.wy)) ∷ (codes "name", string (filter_name o.filter)) ∷ [])

-- the frame, with the options that its pixels depend on
unfoldable pub frame_json : FrameAccount → Data
frame_json f = object_of (
    (codes "crop", crop_json (crop_of f.options)) ∷
    (codes "file", string f.file) ∷
    (codes "filter", filter_json f.options) ∷
    (codes "gain", num f.options.gain) ∷
    (codes "gamma", num f.options.gamma) ∷
    (codes "height", count f.height) ∷
    (codes "max", count f.options.max) ∷
    (codes "min", count f.options.min) ∷
    (codes "number", count f.number) ∷
    (codes "one", count f.options.one) ∷
    (codes "samples", samples_json f.options) ∷
    (codes "width", count f.width) ∷ [])
