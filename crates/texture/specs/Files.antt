-- The form of a texture file: `P6`, three numbers in digits with white space or comments before each, one byte of white space, the
-- samples, and whatever stands behind them.
use Rattle.std.specs.Prelude.{◌≡◌, refl, ℕ, zero, suc, ◌<◌, ◌≤◌, Bool, true, false, ◌||◌, ◌==◌, not, List, [], ◌∷◌, ◌++◌, length, slice_index, codes}
use Rattle.std.proofs.Common.{arith, ap, get_or}
use Rattle.fixed_math.specs.NumberBytes.{is_digit}
use Rattle.fixed_math.specs.Digits.{value_of}
use Rattle.fixed_math.specs.DecimalText.{head_is}
use Rattle.texture.specs.Images.{Image, listed, image_in, byte_count, most_side}
use Rattle.texture.specs.declared.fault.TextureFault.{TextureFault}
use Rattle.texture.specs.declared.fault.TextureFault.TheVariants.{X1, M11, NoMemory}

-- space, tab, line feed, carriage return
abbrev pub is_white : ℕ → Bool
is_white b = b == 32 || b == 9 || b == 10 || b == 13

-- not a line feed
abbrev pub is_in_line : ℕ → Bool
is_in_line b = not (b == 10)

-- each byte passes
abbrev pub Each : (ℕ → Bool) → List ℕ → Type 0
Each p bs = (k : ℕ) → k < length bs → p (slice_index bs k) ≡ true

-- white space and comments: a comment goes from # to the end of its line
pub data IsGap : List ℕ → Type 0 where
  no_gap : IsGap []
  white_gap : (b : ℕ) (gap : List ℕ) → is_white b ≡ true → IsGap gap → IsGap (b ∷ gap)
  comment_gap : (text gap : List ℕ) → Each is_in_line text → IsGap gap → IsGap (35 ∷ (text ++ 10 ∷ gap))

-- bytes that begin with white space or comments and a number in digits, as long as can be, and what stands behind it
pub record IsNumber (bytes : List ℕ) (n : ℕ) (rest : List ℕ) : Type 0 where
  pub gap : List ℕ
  pub digits : List ℕ
  pub text : bytes ≡ gap ++ (digits ++ rest)
  pub is_gap : IsGap gap
  pub some_gap : 0 < length gap
  pub are_digits : Each is_digit digits
  pub some_digits : 0 < length digits
  pub value : n ≡ value_of digits
  pub longest : head_is is_digit rest ≡ false

-- bytes that begin with the header of an image, and what stands behind it
pub record IsHead (bytes : List ℕ) (width height most : ℕ) (rest : List ℕ) : Type 0 where
  pub behind_magic : List ℕ
  pub behind_width : List ℕ
  pub behind_height : List ℕ
  pub white : ℕ
  pub magic : bytes ≡ 80 ∷ 54 ∷ behind_magic
  pub width_text : IsNumber behind_magic width behind_width
  pub height_text : IsNumber behind_width height behind_height
  pub most_text : IsNumber behind_height most (white ∷ rest)
  pub passes : is_white white ≡ true

-- the bytes are a texture file of that image, whose sides may be of any size
pub record IsFile (bytes : List ℕ) (p : Image) : Type 0 where
  pub samples : List ℕ
  pub rest : List ℕ
  pub head : IsHead bytes p.width p.height p.most (samples ++ rest)
  pub some_width : 1 ≤ p.width
  pub some_height : 1 ≤ p.height
  pub some_most : 1 ≤ p.most
  pub most : p.most ≤ 65535
  pub size : length samples ≡ byte_count p.width p.height p.most
  pub image : p ≡ image_in p.width p.height p.most samples

-- bytes that are a file of no image
abbrev pub IsNoFile : List ℕ → Type 0
IsNoFile bytes = (p : Image) → IsFile bytes p → ⊥

-- a texture file whose sides are within the limit
pub record IsTexture (bytes : List ℕ) (p : Image) : Type 0 where
  pub file : IsFile bytes p
  pub sides : most_side p ≤ 2048

-- a texture file with a side past the limit
pub record IsTooLarge (bytes : List ℕ) : Type 0 where
  pub image : Image
  pub file : IsFile bytes image
  pub sides : 2048 < most_side image

-- what a fault says of the bytes
abbrev pub IsFault : List ℕ → TextureFault → Type 0
IsFault bytes X1 = IsNoFile bytes
IsFault bytes M11 = IsTooLarge bytes
IsFault bytes NoMemory = Unit {0}

-- a law: bytes are a texture file of one image at most, so each answer excludes the others
abbrev pub FilesAreOfOneImage : Type 0
FilesAreOfOneImage = (bytes : List ℕ) (p q : Image) → IsFile bytes p → IsFile bytes q → p ≡ q

-- worked values: a file of two by one samples with a comment directly behind `P6`, a zero before a number, and a byte behind the samples
abbrev small : List ℕ
small = codes "P6#a\n2 01\n9\n" ++ (8 ∷ 9 ∷ 10 ∷ 0 ∷ 0 ∷ 0 ∷ 7 ∷ [])

one_byte : (p : ℕ → Bool) (b : ℕ) → p b ≡ true → Each p (b ∷ [])
one_byte p b h zero l = h
one_byte p b h (suc k) l = absurd (omega (arith, l))

two_bytes : (p : ℕ → Bool) (a b : ℕ) → p a ≡ true → p b ≡ true → Each p (a ∷ b ∷ [])
two_bytes p a b h k zero l = h
two_bytes p a b h k (suc zero) l = k
two_bytes p a b h k (suc (suc i)) l = absurd (omega (arith, l))

two_behind : IsNumber (codes "#a\n2 01\n9\n" ++ (8 ∷ 9 ∷ 10 ∷ 0 ∷ 0 ∷ 0 ∷ 7 ∷ [])) 2 (codes " 01\n9\n" ++ (8 ∷ 9 ∷ 10 ∷ 0 ∷ 0 ∷ 0 ∷ 7 ∷ []))
two_behind = record {
  gap = codes "#a\n";
  digits = codes "2";
  text = refl;
  is_gap = comment_gap (codes "a") [] (one_byte is_in_line 97 refl) no_gap;
  some_gap = omega arith;
  are_digits = one_byte is_digit 50 refl;
  some_digits = omega arith;
  value = refl;
  longest = refl;
}

one_behind : IsNumber (codes " 01\n9\n" ++ (8 ∷ 9 ∷ 10 ∷ 0 ∷ 0 ∷ 0 ∷ 7 ∷ [])) 1 (codes "\n9\n" ++ (8 ∷ 9 ∷ 10 ∷ 0 ∷ 0 ∷ 0 ∷ 7 ∷ []))
one_behind = record {
  gap = codes " ";
  digits = codes "01";
  text = refl;
  is_gap = white_gap 32 [] refl no_gap;
  some_gap = omega arith;
  are_digits = two_bytes is_digit 48 49 refl refl;
  some_digits = omega arith;
  value = refl;
  longest = refl;
}

nine_behind : IsNumber (codes "\n9\n" ++ (8 ∷ 9 ∷ 10 ∷ 0 ∷ 0 ∷ 0 ∷ 7 ∷ [])) 9 (10 ∷ ((8 ∷ 9 ∷ 10 ∷ 0 ∷ 0 ∷ 0 ∷ []) ++ 7 ∷ []))
nine_behind = record {
  gap = codes "\n";
  digits = codes "9";
  text = refl;
  is_gap = white_gap 10 [] refl no_gap;
  some_gap = omega arith;
  are_digits = one_byte is_digit 57 refl;
  some_digits = omega arith;
  value = refl;
  longest = refl;
}

small_is_a_file : IsFile small (record { width = 2; height = 1; most = 9; samples = 8 ∷ 9 ∷ 9 ∷ 0 ∷ 0 ∷ 0 ∷ [] })
unfolding listed
small_is_a_file = record {
  samples = 8 ∷ 9 ∷ 10 ∷ 0 ∷ 0 ∷ 0 ∷ [];
  rest = 7 ∷ [];
  head = record {
    behind_magic = codes "#a\n2 01\n9\n" ++ (8 ∷ 9 ∷ 10 ∷ 0 ∷ 0 ∷ 0 ∷ 7 ∷ []);
    behind_width = codes " 01\n9\n" ++ (8 ∷ 9 ∷ 10 ∷ 0 ∷ 0 ∷ 0 ∷ 7 ∷ []);
    behind_height = codes "\n9\n" ++ (8 ∷ 9 ∷ 10 ∷ 0 ∷ 0 ∷ 0 ∷ 7 ∷ []);
    white = 10;
    magic = refl;
    width_text = two_behind;
    height_text = one_behind;
    most_text = nine_behind;
    passes = refl;
  };
  some_width = omega arith;
  some_height = omega arith;
  some_most = omega arith;
  most = omega arith;
  size = refl;
  image = refl;
}

-- one of gray samples isn't one
gray : (rest : List ℕ) → IsNoFile (80 ∷ 53 ∷ rest)
gray rest p f = let e : 53 ≡ 54 = ap (λ bs. get_or bs 1 0) f.head.magic in absurd (omega (arith, e))
