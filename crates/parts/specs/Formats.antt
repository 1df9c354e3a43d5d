-- The text of a part of a picture: a header, then some of the picture's buckets with their pixels.
use Rattle.std.specs.Prelude.{ℕ, ◌+◌, ◌*◌, ◌^◌, ◌<◌, ◌≤◌, ◌≡◌, refl, nat_le, if◌then◌else◌, List, [], ◌∷◌, ◌++◌, length, get_or, map}
use Rattle.std.specs.Int.{w32, to_be_bytes}
use Rattle.std.specs.List.{flat_map}
use Rattle.fixed_math.specs.Spots.{PixelRect, whole_frame, pixel_count}
use Rattle.fixed_math.specs.Buckets.{bucket, bucket_count}
use Rattle.parts.specs.declared.header.Header.{Header}

-- a bucket by its number, and the bytes of its pixels by rows: three channels each
pub record Bucket : Type 0 where
  pub number : ℕ
  pub pixels : List ℕ

-- a part of a picture: its header, and some buckets
pub record Part : Type 0 where
  pub header : Header
  pub buckets : List Bucket

-- what stands for a bucket, or a part, past the end of a list
abbrev pub no_bucket : Bucket
no_bucket = record { number = 0; pixels = [] }

-- what stands for a part past the end of a list
abbrev pub no_part : Part
no_part = record { header = record { width = 0; height = 0; one = 0; side = 0; tag = 0 }; buckets = [] }

-- n is one of these numbers; the numbers of buckets
abbrev pub IsIn : ℕ → List ℕ → Type 0
IsIn n ns = (k : ℕ) × (k < length ns) × (get_or ns k 0 ≡ n)

-- the numbers of buckets
abbrev pub bucket_numbers : List Bucket → List ℕ
bucket_numbers bs = map (λ (b : Bucket). b.number) bs

-- a number in four bytes, the high byte first
abbrev pub word : ℕ → List ℕ
word n = to_be_bytes w32 n

-- `REYPART1`
abbrev pub magic : List ℕ
magic = 82 ∷ 69 ∷ 89 ∷ 80 ∷ 65 ∷ 82 ∷ 84 ∷ 49 ∷ []

-- the header and the count of buckets, before the bytes of the buckets
abbrev pub with_header : Header → ℕ → List ℕ → List ℕ
with_header h count bytes = magic ++ (word h.width ++ (word h.height ++ (word h.one ++ (word h.side ++ (word h.tag ++ (word count ++ bytes))))))

-- a bucket: its number and its pixels
abbrev pub bucket_text : Bucket → List ℕ
bucket_text b = word b.number ++ b.pixels

-- the bytes of buckets, one after another
abbrev pub buckets_text : List Bucket → List ℕ
buckets_text bs = flat_map bucket_text bs

-- the bytes of a part
abbrev pub part_text : Part → List ℕ
part_text p = with_header p.header (length p.buckets) (buckets_text p.buckets)

-- how many bytes a channel has where its greatest number is one: two where it doesn't fit in a byte
abbrev pub channel_bytes : ℕ → ℕ
channel_bytes one = if nat_le one 255 then 1 else 2

-- channel k of pixels in these bytes, the high byte first
abbrev pub channel : ℕ → List ℕ → ℕ → ℕ
channel one bytes k = if nat_le one 255 then get_or bytes k 0 else get_or bytes (2 * k) 0 * 256 + get_or bytes (2 * k + 1) 0

-- the picture's pixels, and how many buckets it has
abbrev pub frame : Header → PixelRect
frame h = whole_frame h.width h.height

-- how many buckets the whole picture has
abbrev pub bucket_total : Header → ℕ
bucket_total h = bucket_count h.side (frame h)

-- how many pixels a bucket has: the last ones of rows and columns are cut to the picture
unfoldable pub area : Header → ℕ → ℕ
area h n = pixel_count (bucket h.side (frame h) n)

-- a header whose fields are in their ranges
pub record IsHeader (h : Header) : Type 0 where
  pub some_wide : 1 ≤ h.width
  pub wide : h.width ≤ 4096
  pub some_high : 1 ≤ h.height
  pub high : h.height ≤ 4096
  pub some_one : 1 ≤ h.one
  pub one : h.one ≤ 65535
  pub some_side : 4 ≤ h.side
  pub side : h.side ≤ 64
  pub tag : h.tag < 2 ^ 32

-- no channel of so many is above one
abbrev pub AreLevels : ℕ → ℕ → List ℕ → Type 0
AreLevels one count bytes = (k : ℕ) → k < count → channel one bytes k ≤ one

-- a bucket of the picture, with its pixels; its number isn't below least
pub record IsBucket (h : Header) (least : ℕ) (b : Bucket) : Type 0 where
  pub order : least ≤ b.number
  pub there : b.number < bucket_total h
  pub long : length b.pixels ≡ channel_bytes h.one * (3 * area h b.number)
  pub levels : AreLevels h.one (3 * area h b.number) b.pixels

-- the bytes begin with the text of that bucket, and the rest is behind it
pub record IsFirst (h : Header) (least : ℕ) (bytes : List ℕ) (b : Bucket) (rest : List ℕ) : Type 0 where
  pub bucket : IsBucket h least b
  pub text : bucket_text b ++ rest ≡ bytes

-- buckets by ascending numbers, of which none is below least
abbrev pub AreBuckets : Header → ℕ → List Bucket → Type 0
AreBuckets h least [] = Unit {0}
AreBuckets h least (b ∷ bs) = IsBucket h least b × AreBuckets h (b.number + 1) bs

-- the bytes are exactly the text of so many buckets
pub record AreAll (h : Header) (n : ℕ) (bytes : List ℕ) (bs : List Bucket) : Type 0 where
  pub count : length bs ≡ n
  pub buckets : AreBuckets h 0 bs
  pub text : buckets_text bs ≡ bytes

-- the bytes begin with that header and count, and the rest is behind them
pub record IsHead (bytes : List ℕ) (h : Header) (n : ℕ) (rest : List ℕ) : Type 0 where
  pub header : IsHeader h
  pub count : n < 2 ^ 32
  pub text : with_header h n rest ≡ bytes

-- the bytes are exactly the text of that part
pub record IsParsed (bytes : List ℕ) (p : Part) : Type 0 where
  pub header : IsHeader p.header
  pub count : length p.buckets < 2 ^ 32
  pub buckets : AreBuckets p.header 0 p.buckets
  pub text : part_text p ≡ bytes

-- the bytes aren't such a text
abbrev pub HasNoBucket : Header → ℕ → List ℕ → Type 0
HasNoBucket h least bytes = (b : Bucket) (rest : List ℕ) → IsFirst h least bytes b rest → ⊥

-- the bytes are no buckets of this picture
abbrev pub AreNotBuckets : Header → ℕ → List ℕ → Type 0
AreNotBuckets h n bytes = (bs : List Bucket) → AreAll h n bytes bs → ⊥

-- the bytes begin with no header
abbrev pub HasNoHead : List ℕ → Type 0
HasNoHead bytes = (h : Header) (n : ℕ) (rest : List ℕ) → IsHead bytes h n rest → ⊥

-- bytes that are no part
abbrev pub IsNoPart : List ℕ → Type 0
IsNoPart bytes = (p : Part) → IsParsed bytes p → ⊥

-- worked values: the part with the first bucket of a picture of 5 by 1 pixels and one channel above 0
abbrev first_of_two : Part
first_of_two = record {
  header = record { width = 5; height = 1; one = 255; side = 4; tag = 258 };
  buckets = record { number = 0; pixels = 7 ∷ 0 ∷ 0 ∷ 0 ∷ 0 ∷ 0 ∷ 0 ∷ 0 ∷ 0 ∷ 0 ∷ 0 ∷ 0 ∷ [] } ∷ [];
}

text_of_first : part_text first_of_two ≡
    82 ∷ 69 ∷ 89 ∷ 80 ∷ 65 ∷ 82 ∷ 84 ∷ 49 ∷ 0 ∷ 0 ∷ 0 ∷ 5 ∷ 0 ∷ 0 ∷ 0 ∷ 1 ∷ 0 ∷ 0 ∷ 0 ∷ 255 ∷ 0 ∷ 0 ∷ 0 ∷ 4 ∷ 0 ∷ 0 ∷ 1 ∷ 2 ∷ 0 ∷ 0 ∷ 0 ∷ 1 ∷
    0 ∷ 0 ∷ 0 ∷ 0 ∷ 7 ∷ 0 ∷ 0 ∷ 0 ∷ 0 ∷ 0 ∷ 0 ∷ 0 ∷ 0 ∷ 0 ∷ 0 ∷ 0 ∷ []
text_of_first = refl

last_is_cut : area first_of_two.header 1 ≡ 1
unfolding area
last_is_cut = refl

channel_of_two_bytes : channel 65535 (1 ∷ 2 ∷ 255 ∷ 128 ∷ []) 1 ≡ 65408
channel_of_two_bytes = refl
