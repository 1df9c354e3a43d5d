-- The picture that parts make together.
use Rattle.std.specs.Prelude.{ℕ, zero, suc, ◌+◌, ◌-◌, ◌*◌, ◌/◌, ◌%◌, ◌≡◌, refl, ◌==◌, if◌then◌else◌, List, [], ◌∷◌, ◌++◌, take, drop}
use Rattle.std.specs.List.{flat_map}
use Rattle.std.specs.Fmt.{decimal}
use Rattle.fixed_math.specs.Spots.{PixelRect}
use Rattle.fixed_math.specs.Buckets.{bucket, bucket_columns}
use Rattle.parts.specs.declared.header.Header.{Header}
use Rattle.parts.specs.Formats.{Bucket, Part, frame, channel_bytes}

-- all buckets of parts, in their order
abbrev pub buckets_of : List Part → List Bucket
buckets_of ps = flat_map (λ (p : Part). p.buckets) ps

-- the pixels of the bucket of that number
abbrev pub pixels_of : ℕ → List Bucket → List ℕ
pixels_of n [] = []
pixels_of n (b ∷ bs) = if b.number == n then b.pixels else pixels_of n bs

-- the number of the bucket that pixel x, y lies in
unfoldable pub number_at : Header → ℕ → ℕ → ℕ
number_at h x y = y / h.side * bucket_columns h.side (frame h) + x / h.side

-- the place of pixel x, y among those of a rectangle, by rows
abbrev pub place_in : PixelRect → ℕ → ℕ → ℕ
place_in r x y = (y - r.top) * (r.right - r.left) + (x - r.left)

-- how many bytes a pixel has
abbrev pub pixel_size : Header → ℕ
pixel_size h = 3 * channel_bytes h.one

-- the bytes of pixel x, y: those in its bucket
unfoldable pub pixel_in : Header → (ℕ → List ℕ) → ℕ → ℕ → List ℕ
pixel_in h pixels x y =
    let n = number_at h x y in
    take (pixel_size h) (drop (pixel_size h * place_in (bucket h.side (frame h) n) x y) (pixels n))

-- the first n of these texts, one behind the other
unfoldable pub run : ℕ → (ℕ → List ℕ) → List ℕ
run zero f = []
run (suc n) f = run n f ++ f n

-- the bytes of a picture in the format PPM, P6: the header, and its pixels by rows from the top
unfoldable pub ppm_header : Header → List ℕ
ppm_header h = 80 ∷ 54 ∷ 10 ∷ [] ++ decimal h.width ++ 32 ∷ [] ++ decimal h.height ++ 10 ∷ [] ++ decimal h.one ++ 10 ∷ []

-- a picture whose pixels are given, in the format PPM
abbrev pub picture : Header → (ℕ → ℕ → List ℕ) → List ℕ
picture h pixel = ppm_header h ++ run (h.width * h.height) (λ p. pixel (p % h.width) (p / h.width))

-- the picture in which each of these buckets has its pixels
abbrev pub joined : Header → List Bucket → List ℕ
joined h bs = picture h (pixel_in h (λ n. pixels_of n bs))

-- worked values: a picture of 5 by 1 pixels has two buckets of side 4, and the second one has the last pixel
abbrev five_wide : Header
five_wide = record { width = 5; height = 1; one = 255; side = 4; tag = 0 }

bucket_of_last : number_at five_wide 4 0 ≡ 1
unfolding number_at
bucket_of_last = refl

joined_of_two : joined (record { width = 2; height = 1; one = 255; side = 4; tag = 0 }) (record { number = 0; pixels = 1 ∷ 2 ∷ 3 ∷ 4 ∷ 5 ∷ 6 ∷ [] } ∷ []) ≡
    ppm_header (record { width = 2; height = 1; one = 255; side = 4; tag = 0 }) ++ 1 ∷ 2 ∷ 3 ∷ 4 ∷ 5 ∷ 6 ∷ []
unfolding run pixel_in number_at
joined_of_two = refl
