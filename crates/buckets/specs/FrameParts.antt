-- Parts of a frame's picture: its table of numbers, and some of its buckets with their pixels.
use Rattle.std.specs.Prelude.{ℕ, ◌+◌, ◌-◌, ◌^◌, ◌<◌, ◌≤◌, ◌≡◌, refl, List, [], ◌∷◌, ◌++◌, length, get_or, slice_index_or}
use Rattle.outside.specs.Frames.{Picture}
use Rattle.parts.specs.declared.header.Header.{Header}
use Rattle.parts.specs.Formats.{Part, bucket_total, area, with_header, part_text}
use Rattle.parts.specs.Pictures.{run}
use Rattle.parts.specs.Division.{Table, IsTable, part_of, table_picture}
use Rattle.scene.specs.Scene.{FrameValue}
use Rattle.scene.specs.Settings.{OptionValues, AreOptions, crop_of}
use Rattle.shader_binding.specs.Sets.{AcceptedValue}
use Rattle.filter_ppm.specs.Film.{pixel}
use Rattle.filter_ppm.specs.Sampled.{IsFormat}
use Rattle.buckets.specs.declared.share.Share.TheVariants.{Nth}
use Rattle.buckets.specs.Shares.{numbers_in}
use Rattle.buckets.specs.Pictures.{film_of, picture_bytes}
use Rattle.buckets.specs.TileWalk.{Drawing, format_in, tile_count}
use Rattle.buckets.specs.Rows.{all_by}

-- what a part says of a picture with these options: it has the pixels of the crop
abbrev pub header_with : OptionValues → ℕ → ℕ → Header
header_with o side tag = record {
  width = (crop_of o).right - (crop_of o).left;
  height = (crop_of o).bottom - (crop_of o).top;
  one = o.one;
  side = side;
  tag = tag;
}

-- the table of a picture, where pixel x, y of the frame has these numbers: its columns and rows are counted from the crop's corner
abbrev pub table_with : OptionValues → (ℕ → ℕ → List ℕ) → ℕ → ℕ → Table
table_with o pixel_at side tag = record {
  header = header_with o side tag;
  level = λ x y k. get_or (pixel_at ((crop_of o).left + x) ((crop_of o).top + y)) k 0;
}

-- the buckets of part K of N, where K and N are the first two numbers of a list
abbrev pub part_with : Table → List ℕ → Part
part_with t part = part_of t (numbers_in (Nth (slice_index_or part 0 0) (slice_index_or part 1 0)) (bucket_total t.header))

-- a frame's table, and the text of one of its parts
abbrev pub frame_table : AcceptedValue → FrameValue → ℕ → ℕ → Table
frame_table a f side tag = table_with f.options (pixel (film_of a f)) side tag

-- the text of a part of a frame's picture, by the numbers of its buckets
unfoldable pub part_bytes : AcceptedValue → FrameValue → ℕ → ℕ → List ℕ → List ℕ
part_bytes a f side tag part = part_text (part_with (frame_table a f side tag) part)

-- the part as an entry of that name
abbrev pub entry_of : AcceptedValue → FrameValue → ℕ → ℕ → List ℕ → List ℕ → Picture
entry_of a f side tag part name = record { name = name; bytes = part_bytes a f side tag part }

-- the text before the buckets of a share that is drawn
abbrev pub share_header : Drawing → ℕ → List ℕ
share_header d tag = with_header (header_with d.frame.options d.side tag) (length (numbers_in d.share (tile_count d))) []

-- and all of its text
abbrev pub share_text : Drawing → ℕ → List ℕ
share_text d tag = share_header d tag ++ all_by d.share d

-- the bytes are the text of the part that is drawn
abbrev pub IsPartText : Drawing → ℕ → List ℕ → Type 0
IsPartText d tag bytes = (part : List ℕ) → d.share ≡ Nth (slice_index_or part 0 0) (slice_index_or part 1 0) → part_bytes d.accepted d.frame d.side tag part ≡ bytes

-- the picture that the table makes is the frame's, so that all parts of a frame make its picture when they are joined
pub record IsTableOf (t : Table) (a : AcceptedValue) (f : FrameValue) : Type 0 where
  pub table : IsTable t
  pub picture : table_picture t ≡ picture_bytes a f

-- a law: the picture that a frame's table makes is the frame's
abbrev pub TablesMakePictures : Type 0
TablesMakePictures = (a : AcceptedValue) (f : FrameValue) (side tag : ℕ) → IsFormat (format_in f) → AreOptions f.options → 4 ≤ side → side ≤ 64 → tag < 2 ^ 32 → IsTableOf (frame_table a f side tag) a f

-- worked values: a crop of 2 by 2 pixels whose first channel counts the frame's columns and whose second one its rows. Part 0 of 2 has its
-- one bucket, and part 1 none.
abbrev second_to_third : OptionValues → OptionValues
second_to_third o = record o { one = 255; crop = 1 ∷ 5 ∷ 3 ∷ 7 ∷ [] }

abbrev places : ℕ → ℕ → List ℕ
places x y = x ∷ y ∷ 9 ∷ []

first_part : (o : OptionValues) → part_text (part_with (table_with (second_to_third o) places 4 7) (0 ∷ 2 ∷ [])) ≡
    82 ∷ 69 ∷ 89 ∷ 80 ∷ 65 ∷ 82 ∷ 84 ∷ 49 ∷ 0 ∷ 0 ∷ 0 ∷ 2 ∷ 0 ∷ 0 ∷ 0 ∷ 2 ∷ 0 ∷ 0 ∷ 0 ∷ 255 ∷ 0 ∷ 0 ∷ 0 ∷ 4 ∷ 0 ∷ 0 ∷ 0 ∷ 7 ∷ 0 ∷ 0 ∷ 0 ∷ 1 ∷
    0 ∷ 0 ∷ 0 ∷ 0 ∷ 1 ∷ 5 ∷ 9 ∷ 2 ∷ 5 ∷ 9 ∷ 1 ∷ 6 ∷ 9 ∷ 2 ∷ 6 ∷ 9 ∷ []
unfolding run area
first_part o = refl

second_part : (o : OptionValues) → part_text (part_with (table_with (second_to_third o) places 4 7) (1 ∷ 2 ∷ [])) ≡
    82 ∷ 69 ∷ 89 ∷ 80 ∷ 65 ∷ 82 ∷ 84 ∷ 49 ∷ 0 ∷ 0 ∷ 0 ∷ 2 ∷ 0 ∷ 0 ∷ 0 ∷ 2 ∷ 0 ∷ 0 ∷ 0 ∷ 255 ∷ 0 ∷ 0 ∷ 0 ∷ 4 ∷ 0 ∷ 0 ∷ 0 ∷ 7 ∷ 0 ∷ 0 ∷ 0 ∷ 0 ∷ []
second_part o = refl
