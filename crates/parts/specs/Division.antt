-- The parts of a picture's table of numbers.
use Rattle.std.specs.Prelude.{ℕ, ◌+◌, ◌/◌, ◌%◌, ◌<◌, ◌≤◌, ◌≡◌, refl, nat_le, if◌then◌else◌, List, [], ◌∷◌, ◌++◌, length, get_or, map}
use Rattle.fixed_math.specs.Spots.{pixel_x, pixel_y}
use Rattle.fixed_math.specs.Buckets.{bucket}
use Rattle.parts.specs.declared.header.Header.{Header}
use Rattle.parts.specs.Formats.{Bucket, Part, IsIn, frame, area, bucket_total, IsHeader, part_text}
use Rattle.parts.specs.Pictures.{run, picture}

-- what a part says of a picture, and the numbers of its pixels, by column, row and channel
pub record Table : Type 0 where
  pub header : Header
  pub level : ℕ → ℕ → ℕ → ℕ

-- a table of numbers within the limits of its header
pub record IsTable (t : Table) : Type 0 where
  pub header : IsHeader t.header
  pub levels : (x y k : ℕ) → x < t.header.width → y < t.header.height → k < 3 → t.level x y k ≤ t.header.one

-- the bytes of a number of a channel, and those of a pixel's three, where the greatest is one
abbrev pub level_bytes : ℕ → ℕ → List ℕ
level_bytes one level = if nat_le one 255 then level ∷ [] else level / 256 ∷ level % 256 ∷ []

abbrev pub pixel_bytes : ℕ → (ℕ → ℕ) → List ℕ
pixel_bytes one level = level_bytes one (level 0) ++ (level_bytes one (level 1) ++ level_bytes one (level 2))

-- the bytes of a pixel of a table
abbrev pub table_pixel : Table → ℕ → ℕ → List ℕ
table_pixel t x y = pixel_bytes t.header.one (t.level x y)

-- the pixels of a bucket, by rows
abbrev pub bucket_pixels : Table → ℕ → List ℕ
bucket_pixels t n = run (area t.header n) (λ p. table_pixel t (pixel_x (bucket t.header.side (frame t.header) n) p) (pixel_y (bucket t.header.side (frame t.header) n) p))

-- the part that has the buckets of these numbers
abbrev pub bucket_of : Table → ℕ → Bucket
bucket_of t n = record { number = n; pixels = bucket_pixels t n }

-- the part of a table's picture that has the buckets of these numbers
abbrev pub part_of : Table → List ℕ → Part
part_of t ns = record { header = t.header; buckets = map (bucket_of t) ns }

-- the texts of the parts that have the buckets of these numbers
abbrev pub texts_of : Table → List (List ℕ) → List (List ℕ)
texts_of t numbers = map (λ ns. part_text (part_of t ns)) numbers

-- the whole picture
abbrev pub table_picture : Table → List ℕ
table_picture t = picture t.header (table_pixel t)

-- ascending numbers below total, of which none is below least
abbrev pub Ascend : ℕ → ℕ → List ℕ → Type 0
Ascend total least [] = Unit {0}
Ascend total least (n ∷ ns) = (least ≤ n) × (n < total) × Ascend total (n + 1) ns

-- each list of numbers ascends, and each bucket of the picture stands in exactly one of them
pub record IsDivision (t : Table) (numbers : List (List ℕ)) : Type 0 where
  pub ascending : (i : ℕ) → i < length numbers → Ascend (bucket_total t.header) 0 (get_or numbers i [])
  pub disjoint : (i j n : ℕ) → j < i → IsIn n (get_or numbers i []) → IsIn n (get_or numbers j []) → ⊥
  pub whole : (n : ℕ) → n < bucket_total t.header → (i : ℕ) × IsIn n (get_or numbers i [])

-- worked values: a pixel in channels of two bytes; the two buckets of a picture of 5 by 1 pixels whose first channels count its columns,
-- whose second ones are 9 and whose third ones are 0
pixel_of_two_bytes : pixel_bytes 1000 (λ k. 258 + k) ≡ 1 ∷ 2 ∷ 1 ∷ 3 ∷ 1 ∷ 4 ∷ []
pixel_of_two_bytes = refl

abbrev five_columns : Table
five_columns = record { header = record { width = 5; height = 1; one = 255; side = 4; tag = 0 }; level = λ x y k. if nat_le k 0 then x else if nat_le k 1 then 9 else 0 }

pixels_of_first : bucket_pixels five_columns 0 ≡ 0 ∷ 9 ∷ 0 ∷ 1 ∷ 9 ∷ 0 ∷ 2 ∷ 9 ∷ 0 ∷ 3 ∷ 9 ∷ 0 ∷ []
unfolding run area
pixels_of_first = refl

pixels_of_last : bucket_pixels five_columns 1 ≡ 4 ∷ 9 ∷ 0 ∷ []
unfolding run area
pixels_of_last = refl
