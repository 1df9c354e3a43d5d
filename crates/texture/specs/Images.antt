-- Images: samples by rows, three a place, from 0 to the greatest.
use Rattle.std.specs.Prelude.{ℕ, zero, suc, ◌+◌, ◌*◌, ◌<◌, ◌≤◌, ◌≡◌, refl, if◌then◌else◌, nat_le, min, max, List, [], ◌∷◌, ◌++◌, length, get_or}

-- the samples by rows from the top, three a place; each at most `most`
pub record Image : Type 0 where
  pub width : ℕ
  pub height : ℕ
  pub most : ℕ
  pub samples : List ℕ

-- f 0, .., f (n - 1)
unfoldable pub listed : ℕ → (ℕ → ℕ) → List ℕ
listed zero f = []
listed (suc n) f = listed n f ++ f n ∷ []

-- how many samples an image of these sides has
abbrev pub sample_count : ℕ → ℕ → ℕ
sample_count width height = 3 * (width * height)

-- how many bytes a sample has where the greatest is `most`: two where it doesn't fit in a byte
abbrev pub bytes_each : ℕ → ℕ
bytes_each most = if nat_le most 255 then 1 else 2

-- number k in these bytes, the high byte first
abbrev pub number_in : ℕ → List ℕ → ℕ → ℕ
number_in most bytes k = if nat_le most 255 then get_or bytes k 0 else get_or bytes (2 * k) 0 * 256 + get_or bytes (2 * k + 1) 0

-- so many samples in these bytes: a number above the greatest counts as the greatest
abbrev pub samples_in : ℕ → ℕ → List ℕ → List ℕ
samples_in most count bytes = listed count (λ k. min (number_in most bytes k) most)

-- the image whose samples stand in these bytes
abbrev pub image_in : ℕ → ℕ → ℕ → List ℕ → Image
image_in width height most bytes = record { width = width; height = height; most = most; samples = samples_in most (sample_count width height) bytes }

-- how many bytes the samples of such an image take
abbrev pub byte_count : ℕ → ℕ → ℕ → ℕ
byte_count width height most = sample_count width height * bytes_each most

-- how many bytes an image's samples take in a file
abbrev pub image_bytes : Image → ℕ
image_bytes p = byte_count p.width p.height p.most

-- the greater side
abbrev pub most_side : Image → ℕ
most_side p = max p.width p.height

-- an image that a texture may have
pub record IsImage (p : Image) : Type 0 where
  pub some_width : 0 < p.width
  pub some_height : 0 < p.height
  pub width : p.width ≤ 2048
  pub height : p.height ≤ 2048
  pub some : 0 < p.most
  pub most : p.most ≤ 65535
  pub size : length p.samples ≡ sample_count p.width p.height
  pub each : (k : ℕ) → get_or p.samples k 0 ≤ p.most

-- worked values: a number above the greatest, and numbers of two bytes
above_the_greatest : samples_in 9 3 (8 ∷ 9 ∷ 10 ∷ []) ≡ 8 ∷ 9 ∷ 9 ∷ []
unfolding listed
above_the_greatest = refl

two_bytes : samples_in 300 2 (1 ∷ 0 ∷ 9 ∷ 9 ∷ []) ≡ 256 ∷ 300 ∷ []
unfolding listed
two_bytes = refl

-- bytes that are just the samples of an image that a texture may have
pub record IsStored (width height most : ℕ) (bytes : List ℕ) : Type 0 where
  pub image : IsImage (image_in width height most bytes)
  pub size : length bytes ≡ byte_count width height most
