-- Reading a header from its front: what is left behind white space and comments, and numbers that are cut.
use Rattle.std.specs.Prelude.{◌≡◌, ℕ, ◌-◌, ◌^◌, ◌≤◌, Bool, true, ◌||◌, ◌==◌, cond, min, List, [], ◌∷◌}
use Rattle.texture.specs.Files.{is_white, is_in_line, IsNumber, IsHead}
use Rattle.texture.specs.Images.{byte_count}
use Rattle.texture.specs.declared.header.Header.{Header}

-- a byte goes on with white space and comments, in a comment or not; and whether what follows it lies in a comment
abbrev pub stays : Bool → ℕ → Bool
stays comment b = comment || (is_white b || b == 35)

abbrev pub turns : Bool → ℕ → Bool
turns comment b = cond comment (is_in_line b) (b == 35)

-- what stands behind the white space and comments at the front, which may begin in a comment
unfoldable pub behind_gap : Bool → List ℕ → List ℕ
behind_gap comment [] = []
behind_gap comment (b ∷ bs) = cond (stays comment b) (behind_gap (turns comment b) bs) (b ∷ bs)

-- a number as far as 64 bits hold it
abbrev pub cut : ℕ → ℕ
cut n = min n (2 ^ 64 - 1)

-- the bytes begin with a number, cut
pub record IsCutNumber (bytes : List ℕ) (n : ℕ) (rest : List ℕ) : Type 0 where
  pub number : ℕ
  pub text : IsNumber bytes number rest
  pub value : n ≡ cut number

abbrev pub HasNoNumber : List ℕ → Type 0
HasNoNumber bytes = (n : ℕ) (rest : List ℕ) → IsNumber bytes n rest → ⊥

-- the bytes begin with `P6`
abbrev pub IsBehindMagic : List ℕ → List ℕ → Type 0
IsBehindMagic bytes rest = bytes ≡ 80 ∷ 54 ∷ rest

abbrev pub HasNoMagic : List ℕ → Type 0
HasNoMagic bytes = (rest : List ℕ) → IsBehindMagic bytes rest → ⊥

-- the bytes begin with one of white space
pub record IsBehindWhite (bytes rest : List ℕ) : Type 0 where
  pub white : ℕ
  pub text : bytes ≡ white ∷ rest
  pub passes : is_white white ≡ true

abbrev pub HasNoWhite : List ℕ → Type 0
HasNoWhite bytes = (rest : List ℕ) → IsBehindWhite bytes rest → ⊥

-- the bytes begin with a header, its numbers cut
pub record IsCutHead (bytes : List ℕ) (h : Header) (rest : List ℕ) : Type 0 where
  pub width : ℕ
  pub height : ℕ
  pub most : ℕ
  pub text : IsHead bytes width height most rest
  pub width_value : h.width ≡ cut width
  pub height_value : h.height ≡ cut height
  pub most_value : h.most ≡ cut most

abbrev pub HasNoHead : List ℕ → Type 0
HasNoHead bytes = (width height most : ℕ) (rest : List ℕ) → IsHead bytes width height most rest → ⊥

-- so many bytes hold the samples of an image of these numbers
pub record IsWhole (width height most count : ℕ) : Type 0 where
  pub some_width : 1 ≤ width
  pub some_height : 1 ≤ height
  pub some_most : 1 ≤ most
  pub most_fits : most ≤ 65535
  pub room : byte_count width height most ≤ count
