-- The image of a texture file, read from its front. The form is that of PPM with P6, as Netpbm documents it: the magic number, the width, the
-- height and the greatest sample (maxval) in digits, each behind white space or comments, one byte of white space, and the raster.
use Rattle.std.proofs.Common.{ap}
use Rattle.std.specs.Prelude.{◌≡◌, refl, ℕ, Bool, false, ◌&&◌, ◌||◌, ◌==◌, nat_lt, nat_le, if◌then◌else◌, List, [], ◌∷◌, ◌++◌, length, take, Option, Some, None, codes}
use Rattle.fixed_math.specs.NumberBytes.{is_digit}
use Rattle.fixed_math.specs.Digits.{value_of}
use Rattle.fixed_math.specs.DecimalText.{head_is, digits_at, behind_digits}
use Rattle.texture.specs.Files.{is_white, IsNoFile, IsTexture, IsTooLarge}
use Rattle.texture.specs.Images.{Image, listed, image_in, byte_count, most_side}
use Rattle.texture.specs.Scans.{behind_gap}

-- what stands behind the magic number
abbrev pub behind_magic : List ℕ → Option (List ℕ)
behind_magic (p ∷ six ∷ bytes) = if p == 80 && six == 54 then Some bytes else None
behind_magic bytes = None

-- white space or a comment begins
abbrev pub begins_gap : ℕ → Bool
begins_gap b = is_white b || b == 35

-- the number behind white space or comments, and what stands behind it
abbrev pub number_at : List ℕ → Option (ℕ × List ℕ)
number_at bytes =
    let digits = behind_gap false bytes in
    if head_is begins_gap bytes && head_is is_digit digits then Some (value_of (digits_at digits), behind_digits digits) else None

-- what stands behind one byte of white space
abbrev pub behind_white : List ℕ → Option (List ℕ)
behind_white [] = None
behind_white (b ∷ bytes) = if is_white b then Some bytes else None

-- where something is there, what follows from it
abbrev pub follow : {A B : Type 0} → Option A → (A → Option B) → Option B
follow None next = None
follow (Some x) next = next x

-- what a header says, and the bytes behind it
pub record Headed : Type 0 where
  pub width : ℕ
  pub height : ℕ
  pub most : ℕ
  pub raster : List ℕ

-- what a header says, where the bytes begin with one
abbrev pub header_of : List ℕ → Option Headed
header_of bytes =
    follow (behind_magic bytes) (λ rest.
    follow (number_at rest) (λ width.
    follow (number_at width.1) (λ height.
    follow (number_at height.1) (λ most.
    follow (behind_white most.1) (λ raster.
    Some (record { width = width.0; height = height.0; most = most.0; raster = raster }))))))

-- sides from 1, a greatest sample from 1 to 65535, and as many bytes as the samples have; bytes behind them count for nothing
abbrev pub is_whole : Headed → Bool
is_whole h = nat_lt 0 h.width && (nat_lt 0 h.height && (nat_lt 0 h.most && (nat_le h.most 65535 && nat_le (byte_count h.width h.height h.most) (length h.raster))))

-- the image of a header and the samples after it
abbrev pub image_of : Headed → Image
image_of h = image_in h.width h.height h.most (take (byte_count h.width h.height h.most) h.raster)

-- what a file is: no texture, one with a side past the limit, or one of that image
pub data Reading : Type 0 where
  NoFile TooLarge : Reading
  Form : (image : Image) → Reading

abbrev pub reading_of : Option Headed → Reading
reading_of None = NoFile
reading_of (Some h) = if is_whole h then (if nat_le (most_side (image_of h)) 2048 then Form (image_of h) else TooLarge) else NoFile

-- what a file is by its front: no texture, one with a side past the limit, or one of an image
abbrev pub reading : List ℕ → Reading
reading bytes = reading_of (header_of bytes)

-- a law: the bytes are what is read of them
abbrev pub IsReading : List ℕ → Reading → Type 0
IsReading bytes NoFile = IsNoFile bytes
IsReading bytes TooLarge = IsTooLarge bytes
IsReading bytes (Form p) = IsTexture bytes p

abbrev pub BytesAreAsRead : Type 0
BytesAreAsRead = (bytes : List ℕ) → IsReading bytes (reading bytes)

-- worked values: two by one samples, with comments behind `P6` and before the greatest sample, which is 9, a zero before a number, and a byte
-- behind the samples; a sample above 9 counts as 9
abbrev raster : List ℕ
raster = 8 ∷ 9 ∷ 10 ∷ 0 ∷ 0 ∷ 0 ∷ 7 ∷ []

with_comments : reading (codes "P6#a\n2 01\n# of 9\n9\n" ++ raster) ≡ Form (record { width = 2; height = 1; most = 9; samples = 8 ∷ 9 ∷ 9 ∷ 0 ∷ 0 ∷ 0 ∷ [] })
unfolding listed behind_gap
with_comments = refl

-- one sample of each channel in two bytes
of_two_bytes : reading (codes "P6 1 1 300 " ++ (1 ∷ 0 ∷ 9 ∷ 9 ∷ 0 ∷ 5 ∷ [])) ≡ Form (record { width = 1; height = 1; most = 300; samples = 256 ∷ 300 ∷ 5 ∷ [] })
unfolding listed behind_gap
of_two_bytes = refl

-- gray samples, a header that ends early, no white space before the width, a width of 0, a greatest sample past 65535, and a byte too few
of_gray : reading (codes "P5 2 1 9 " ++ raster) ≡ NoFile
of_gray = refl

ends_early : reading (codes "P6 2 1 9") ≡ NoFile
unfolding behind_gap
ends_early = refl

no_white : reading (codes "P62 1 9 " ++ raster) ≡ NoFile
unfolding behind_gap
no_white = refl

no_width : reading (codes "P6 0 1 9 " ++ raster) ≡ NoFile
unfolding behind_gap
no_width = refl

past_most : reading (codes "P6 1 1 65536 " ++ raster) ≡ NoFile
unfolding behind_gap
past_most = refl

one_less : reading (codes "P6 1 1 300 " ++ (1 ∷ 0 ∷ 9 ∷ 9 ∷ 0 ∷ [])) ≡ NoFile
unfolding behind_gap
one_less = refl

-- a side of 2049, with all its bytes
too_wide : (bytes : List ℕ) → length bytes ≡ 6147 → reading (codes "P6 2049 1 255 " ++ bytes) ≡ TooLarge
unfolding behind_gap
too_wide bytes h = ap (λ n. if nat_le 6147 n then TooLarge else NoFile) h
