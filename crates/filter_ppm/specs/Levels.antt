-- From a pixel's colour to the numbers of the picture, and to its bytes.
use Rattle.std.specs.Prelude.{ℕ, ◌*◌, ◌/◌, ◌%◌, nat_le, ℤ, pos, ◌+ℤ◌, ◌*ℤ◌, cond, unsigned_abs, List, [], ◌∷◌, ◌++◌, ◌≡◌, refl}
use Rattle.std.specs.Fmt.{decimal, digits}
use Rattle.std.specs.List.{flat_map}
use Rattle.std.specs.Ordering.{int_eq}
use Rattle.fixed_math.specs.Whole.{floor_by, clamp}
use Rattle.fixed_math.specs.Fixed.{mul, div}
use Rattle.fixed_math.specs.Power.{pow}
use Rattle.fixed_math.specs.declared.vec3.Vec3.{Vec3}
use Rattle.scene.specs.Settings.{OptionValues}

-- a channel times the gain, to the power 1 / gamma
unfoldable pub exposed_part : OptionValues → ℤ → ℤ
exposed_part o v = cond (int_eq o.gamma (pos 65536)) (mul v o.gain) (pow (mul v o.gain) (div (pos 65536) o.gamma))

-- a colour after exposure
abbrev pub exposed : OptionValues → Vec3 → Vec3
exposed o c = record { x = exposed_part o c.x; y = exposed_part o c.y; z = exposed_part o c.z }

-- a channel times `one`, rounded to the nearest whole number, a half up
unfoldable pub level : ℕ → ℤ → ℤ
level one v = floor_by (pos (2 * one) *ℤ v +ℤ pos 65536) 131072

-- a number put into low to high
unfoldable pub limited : ℕ → ℕ → ℤ → ℕ
limited low high n = unsigned_abs (clamp (pos low) (pos high) n)

-- the number of a channel in the picture
abbrev pub quantized : OptionValues → ℤ → ℕ
quantized o v = limited o.min o.max (level o.one v)

-- the numbers of a pixel of this colour
unfoldable pub levels : OptionValues → Vec3 → List ℕ
levels o c =
    let e = exposed o c in
    quantized o e.x ∷ quantized o e.y ∷ quantized o e.z ∷ []

-- the header of a picture in the format PPM, P6: `P6`, the size, the greatest number
unfoldable pub header : ℕ → ℕ → OptionValues → List ℕ
header width height o = 80 ∷ 54 ∷ 10 ∷ [] ++ decimal width ++ 32 ∷ [] ++ decimal height ++ 10 ∷ [] ++ decimal o.one ++ 10 ∷ []

-- the bytes of a number of a channel, where the greatest is `one`: one byte where that is at most 255, else two, the high byte first
unfoldable pub level_bytes : ℕ → ℕ → List ℕ
level_bytes one level = cond (nat_le one 255) (level ∷ []) (level / 256 ∷ level % 256 ∷ [])

-- the bytes of the numbers of a pixel in turn
abbrev pub pixel_bytes : ℕ → List ℕ → List ℕ
pixel_bytes one levels = flat_map (level_bytes one) levels

-- the bytes of pixels in turn
abbrev pub band : ℕ → List (List ℕ) → List ℕ
band one pixels = flat_map (pixel_bytes one) pixels

-- worked values
abbrev full : OptionValues → OptionValues
full o = record o { one = 255; min = 0; max = 255 }

quantized_half : (o : OptionValues) → quantized (full o) (pos 32768) ≡ 128
unfolding level limited
quantized_half o = refl

header_of_two : (o : OptionValues) → header 2 1 (full o) ≡ 80 ∷ 54 ∷ 10 ∷ 50 ∷ 32 ∷ 49 ∷ 10 ∷ 50 ∷ 53 ∷ 53 ∷ 10 ∷ []
unfolding header digits
header_of_two o = refl

half_of_sixteen_bits : level_bytes 65535 32768 ≡ 128 ∷ 0 ∷ []
unfolding level_bytes
half_of_sixteen_bits = refl

most_of_one_byte : level_bytes 255 255 ≡ 255 ∷ []
unfolding level_bytes
most_of_one_byte = refl

least_of_two_bytes : level_bytes 256 255 ≡ 0 ∷ 255 ∷ []
unfolding level_bytes
least_of_two_bytes = refl
