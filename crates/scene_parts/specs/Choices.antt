-- The options of a frame, and what each request sets (RenderMan Interface 3.2, section 4.1).
use Rattle.std.specs.Prelude.{◌≡◌, refl, ℕ, ◌+◌, ◌-◌, ◌*◌, ◌/◌, ◌≤◌, min, max, ℤ, pos, neg_ℤ, ◌≤ℤ◌, ◌<ℤ◌, int_le, int_lt, unsigned_abs, Bool, true, false, ◌||◌, List, [], ◌∷◌, Option, Some, None, Result, Ok, Err, if◌then◌else◌, codes, slice_index_or, unwrap_or}
use Rattle.std.specs.Str.{bytes_eq}
use Rattle.fixed_math.specs.Fixed.{div}
use Rattle.fixed_math.specs.Whole.{floor_by}
use Rattle.transforms.specs.declared.view.View.{View}
use Rattle.scene.specs.declared.params.Param.{Param}
use Rattle.scene.specs.declared.params.Kind.{Kind}
use Rattle.scene.specs.declared.params.Kind.TheVariants as kinds
use Rattle.scene.specs.declared.params.Values.{Values}
use Rattle.scene.specs.declared.params.Values.TheVariants.{Numbers}
use Rattle.rib_reader.specs.declared.table.Words.TheVariants.{Modes}
use Rattle.rib_reader.specs.declared.req.Req.{Req}
use Rattle.rib_reader.specs.declared.req.Req.TheVariants as reqs
use Rattle.rib_reader.specs.declared.args.Arg.{Arg}
use Rattle.rib_reader.specs.Rules.{word_at, raw_at, whole_at, is_one}
use Rattle.rib_reader.specs.Holding.{last_named}
use Rattle.rib_reader.specs.Reading.{Read}
use Rattle.scene.specs.Settings.{OptionValues}
use Rattle.scene.specs.declared.filter.Filter.{Filter}
use Rattle.scene.specs.declared.filter.Filter.TheVariants.{Box, Triangle, Gaussian}
use Rattle.scene_parts.specs.declared.code.StateCode.{StateCode}
use Rattle.scene_parts.specs.declared.code.StateCode.TheVariants.{M5, M6}

-- The options in force: the raster's size; the ratio of the frame's sides and the screen window, where a scene gives them; the depths
-- that are seen; the field of view in degrees, none where the projection is orthographic; the parts of the raster's sides between which
-- the picture lies, from xmin to xmax and from ymin to ymax; the times at which the shutter opens and closes; and the picture's options but
-- for the pixels of its crop.
pub record ChoiceValues : Type 0 where
  pub width : ℕ
  pub height : ℕ
  pub ratio : Option ℤ
  pub window : Option (List ℤ)
  pub near : ℤ
  pub far : ℤ
  pub fov : Option ℤ
  pub crop : List ℤ
  pub shutter : List ℤ
  pub picture : OptionValues

abbrev pub IsRatio : Option ℤ → Type 0
IsRatio None = Unit {0}
IsRatio (Some f) = pos 1 ≤ℤ f

-- left below right, and bottom below top
abbrev pub IsWindow : List ℤ → Type 0
IsWindow w = (slice_index_or w 0 (pos 0) <ℤ slice_index_or w 1 (pos 0)) × (slice_index_or w 2 (pos 0) <ℤ slice_index_or w 3 (pos 0))

abbrev pub IsSomeWindow : Option (List ℤ) → Type 0
IsSomeWindow None = Unit {0}
IsSomeWindow (Some w) = IsWindow w

-- parts of the raster's sides, xmin below xmax and ymin below ymax: 0 is its left or upper end, and 1 its right or lower one
pub record IsCropWindow (w : List ℤ) : Type 0 where
  pub left : pos 0 ≤ℤ slice_index_or w 0 (pos 0)
  pub across : slice_index_or w 0 (pos 0) <ℤ slice_index_or w 1 (pos 0)
  pub right : slice_index_or w 1 (pos 0) ≤ℤ pos 65536
  pub top : pos 0 ≤ℤ slice_index_or w 2 (pos 0)
  pub down : slice_index_or w 2 (pos 0) <ℤ slice_index_or w 3 (pos 0)
  pub bottom : slice_index_or w 3 (pos 0) ≤ℤ pos 65536

pub record AreChoices (c : ChoiceValues) : Type 0 where
  pub some_width : 1 ≤ c.width
  pub most_width : c.width ≤ 4096
  pub some_height : 1 ≤ c.height
  pub most_height : c.height ≤ 4096
  pub near : pos 1 ≤ℤ c.near
  pub far : c.near <ℤ c.far
  pub ratio : IsRatio c.ratio
  pub window : IsSomeWindow c.window
  pub crop : IsCropWindow c.crop

-- the number 1
abbrev pub one : ℤ
one = pos 65536

-- 90 degrees
abbrev pub right_angle : ℤ
right_angle = pos 5898240

-- at the start, two by two samples a pixel under a gaussian filter of two pixels; the raster isn't known yet
abbrev pub first_picture : OptionValues
first_picture = record { xs = 2; ys = 2; filter = Gaussian; wx = 512; wy = 512; gain = one; gamma = one; one = 255; min = 0; max = 255; crop = 0 ∷ 0 ∷ 0 ∷ 0 ∷ [] }

-- at the start
abbrev pub first_choices : ChoiceValues
first_choices = record {
  width = 640;
  height = 480;
  ratio = None;
  window = None;
  near = pos 64;
  far = pos 2147418112;
  fov = None;
  crop = pos 0 ∷ one ∷ pos 0 ∷ one ∷ [];
  shutter = pos 0 ∷ pos 0 ∷ [];
  picture = first_picture;
}

-- ---- what a request sets

-- Format: at most 4,096 pixels in each direction
abbrev pub with_format : Option ℤ → Option ℤ → ChoiceValues → Result ChoiceValues StateCode
with_format (Some w) (Some h) c =
    if int_lt (pos 4096) w || int_lt (pos 4096) h then Err M5 else Ok (record c { width = unsigned_abs w; height = unsigned_abs h })
with_format _ _ c = Ok c

-- the options after `FrameAspectRatio`
abbrev pub with_ratio : Option ℤ → ChoiceValues → ChoiceValues
with_ratio (Some f) c = record c { ratio = Some f }
with_ratio None c = c

-- the options after `ScreenWindow`
abbrev pub with_window : Option ℤ → Option ℤ → Option ℤ → Option ℤ → ChoiceValues → ChoiceValues
with_window (Some l) (Some r) (Some b) (Some t) c = record c { window = Some (l ∷ r ∷ b ∷ t ∷ []) }
with_window _ _ _ _ c = c

-- the options after `Clipping`
abbrev pub with_depths : Option ℤ → Option ℤ → ChoiceValues → ChoiceValues
with_depths (Some near) (Some far) c = record c { near = near; far = far }
with_depths _ _ c = c

-- the options after `CropWindow`
abbrev pub with_crop : Option ℤ → Option ℤ → Option ℤ → Option ℤ → ChoiceValues → ChoiceValues
with_crop (Some left) (Some right) (Some top) (Some bottom) c = record c { crop = left ∷ right ∷ top ∷ bottom ∷ [] }
with_crop _ _ _ _ c = c

-- the options after `Shutter`
abbrev pub with_shutter : Option ℤ → Option ℤ → ChoiceValues → ChoiceValues
with_shutter (Some opens) (Some closes) c = record c { shutter = opens ∷ closes ∷ [] }
with_shutter _ _ c = c

abbrev pub is_word : Option (List ℕ) → List ℕ → Bool
is_word None name = false
is_word (Some w) name = bytes_eq w name

abbrev pub is_float : Kind → Bool
is_float kinds.Float = true
is_float _ = false

abbrev pub first_number : Values → Option ℤ
first_number (Numbers (x ∷ xs)) = Some x
first_number _ = None

-- its number, and 90 degrees where it is none
abbrev pub degrees_in : Option Param → ℤ
degrees_in None = right_angle
degrees_in (Some p) = if is_float p.kind then unwrap_or (first_number p.values) right_angle else right_angle

-- Projection: the field of view of a perspective, and none of an orthographic one
abbrev pub field_in : List Arg → List Param → Option ℤ
field_in args params = if is_word (word_at args 0) (codes "perspective") then Some (degrees_in (last_named (codes "fov") params)) else None

-- the number of samples, rounded down, and at most 16
abbrev pub with_samples : Option ℤ → Option ℤ → ChoiceValues → Result ChoiceValues StateCode
with_samples (Some x) (Some y) c =
    let xs = floor_by x 65536 in
    let ys = floor_by y 65536 in
    if int_lt (pos 16) xs || int_lt (pos 16) ys then Err M6 else Ok (record c { picture = record c.picture { xs = unsigned_abs xs; ys = unsigned_abs ys } })
with_samples _ _ c = Ok c

abbrev pub filter_named : List ℕ → Filter
filter_named name = if bytes_eq name (codes "box") then Box else if bytes_eq name (codes "triangle") then Triangle else Gaussian

-- a filter at most 16 pixels wide and high; its widths are kept in 1/256 pixel, rounded down
abbrev pub with_filter : Option (List ℕ) → Option ℤ → Option ℤ → ChoiceValues → Result ChoiceValues StateCode
with_filter (Some name) (Some x) (Some y) c =
    if int_lt (pos 1048576) x || int_lt (pos 1048576) y then Err M6
    else Ok (record c { picture = record c.picture { filter = filter_named name; wx = unsigned_abs (floor_by x 256); wy = unsigned_abs (floor_by y 256) } })
with_filter _ _ _ c = Ok c

-- the options after `Exposure`
abbrev pub with_exposure : Option ℤ → Option ℤ → ChoiceValues → ChoiceValues
with_exposure (Some gain) (Some gamma) c = record c { picture = record c.picture { gain = gain; gamma = gamma } }
with_exposure _ _ c = c

-- the options after `Quantize`
abbrev pub with_levels : Option ℤ → Option ℤ → Option ℤ → ChoiceValues → ChoiceValues
with_levels (Some one) (Some low) (Some high) c = record c { picture = record c.picture { one = unsigned_abs one; min = unsigned_abs low; max = unsigned_abs high } }
with_levels _ _ _ c = c

-- Quantize: the levels of "rgb" and "rgba"; another name is without effect
abbrev pub with_quantize : List Arg → ChoiceValues → ChoiceValues
with_quantize args c = if is_one Modes (word_at args 0) then with_levels (whole_at args 1) (whole_at args 2) (whole_at args 3) c else c

-- the options after a request for one of them, by its name
abbrev pub chosen_by : Req → List Arg → List Param → ChoiceValues → Result ChoiceValues StateCode
chosen_by reqs.Format args params c = with_format (whole_at args 0) (whole_at args 1) c
chosen_by reqs.FrameAspectRatio args params c = Ok (with_ratio (raw_at args 0) c)
chosen_by reqs.ScreenWindow args params c = Ok (with_window (raw_at args 0) (raw_at args 1) (raw_at args 2) (raw_at args 3) c)
chosen_by reqs.CropWindow args params c = Ok (with_crop (raw_at args 0) (raw_at args 1) (raw_at args 2) (raw_at args 3) c)
chosen_by reqs.Shutter args params c = Ok (with_shutter (raw_at args 0) (raw_at args 1) c)
chosen_by reqs.Clipping args params c = Ok (with_depths (raw_at args 0) (raw_at args 1) c)
chosen_by reqs.Projection args params c = Ok (record c { fov = field_in args params })
chosen_by reqs.PixelSamples args params c = with_samples (raw_at args 0) (raw_at args 1) c
chosen_by reqs.PixelFilter args params c = with_filter (word_at args 0) (raw_at args 1) (raw_at args 2) c
chosen_by reqs.Exposure args params c = Ok (with_exposure (raw_at args 0) (raw_at args 1) c)
chosen_by reqs.Quantize args params c = Ok (with_quantize args c)
chosen_by _ args params c = Ok c

-- the options behind a request for one of them; Display changes none of these
abbrev pub chosen : Read → ChoiceValues → Result ChoiceValues StateCode
chosen r c = chosen_by r.name r.args r.params c

-- ---- what a picture has of its frame
-- a part of a side of so many pixels, rounded up to whole pixels
abbrev pub edge_of : ℕ → ℤ → ℕ
edge_of pixels part = (pixels * unsigned_abs part + 65535) / 65536

-- the first pixel between two parts of a side, and the end of those between them, of which there is one at least (RenderMan Interface
-- 3.2, CropWindow)
abbrev pub first_pixel : ℕ → ℤ → ℕ
first_pixel pixels from = min (edge_of pixels from) (pixels - 1)

-- the end of the pixels between two parts of a side, one at least
abbrev pub end_pixel : ℕ → ℤ → ℤ → ℕ
end_pixel pixels from to = max (edge_of pixels to) (first_pixel pixels from + 1)

-- the left, top, right and bottom of the pixels in a window of a raster of that size
abbrev pub crop_in : List ℤ → ℕ → ℕ → List ℕ
crop_in w width height =
    let x = slice_index_or w 0 (pos 0) in
    let y = slice_index_or w 2 (pos 0) in
    first_pixel width x ∷ first_pixel height y ∷ end_pixel width x (slice_index_or w 1 (pos 0)) ∷ end_pixel height y (slice_index_or w 3 (pos 0)) ∷ []

-- the options of the picture of a raster of that size
abbrev pub picture_of : ChoiceValues → ℕ → ℕ → OptionValues
picture_of c width height = record c.picture { crop = crop_in c.crop width height }

-- ---- what a frame is seen by

-- the ratio of the frame's sides: the one that is given, else that of its size
abbrev pub ratio_of : ChoiceValues → ℤ
ratio_of c = unwrap_or c.ratio (pos (65536 * c.width / c.height))

-- the screen window of a ratio: its shorter direction goes from -1 to 1 (RenderMan Interface 3.2, ScreenWindow)
abbrev pub window_by : ℤ → List ℤ
window_by f =
    if int_le one f then neg_ℤ f ∷ f ∷ neg_ℤ one ∷ one ∷ []
    else neg_ℤ one ∷ one ∷ neg_ℤ (div one f) ∷ div one f ∷ []

-- the view of these options
abbrev pub view_of : ChoiceValues → View
view_of c = record { fov = c.fov; window = unwrap_or c.window (window_by (ratio_of c)); width = c.width; height = c.height; near = c.near; far = c.far }

-- worked values
window_of_start : (view_of first_choices).window ≡ neg_ℤ (pos 87381) ∷ pos 87381 ∷ neg_ℤ one ∷ one ∷ []
window_of_start = refl

window_of_tall : window_by (pos 32768) ≡ neg_ℤ one ∷ one ∷ neg_ℤ (pos 131072) ∷ pos 131072 ∷ []
window_of_tall = refl

format_at_limit : with_format (Some (pos 4096)) (Some (pos 1)) first_choices ≡ Ok (record first_choices { width = 4096; height = 1 })
format_at_limit = refl

format_past_limit : with_format (Some (pos 1)) (Some (pos 4097)) first_choices ≡ Err M5
format_past_limit = refl

whole_crop : crop_in first_choices.crop 640 480 ≡ 0 ∷ 0 ∷ 640 ∷ 480 ∷ []
whole_crop = refl

-- the middle half of four columns; between .26 and .27 no column begins, and then the one behind them stands for them
half_crop : crop_in (pos 16384 ∷ pos 49152 ∷ pos 0 ∷ one ∷ []) 4 2 ≡ 1 ∷ 0 ∷ 3 ∷ 2 ∷ []
half_crop = refl

narrow_crop : crop_in (pos 17039 ∷ pos 17695 ∷ pos 0 ∷ one ∷ []) 4 2 ≡ 2 ∷ 0 ∷ 3 ∷ 2 ∷ []
narrow_crop = refl
