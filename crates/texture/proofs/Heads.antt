-- The header at the front of a file: what is read is a header, and the only one.
use Rattle.std.proofs.Common.{◌≡◌, ◌∙◌, sym, subst, ℕ, List, ◌∷◌}
use Rattle.texture.specs.Files.{IsNumber, IsHead}
use Rattle.texture.specs.Scans.{IsBehindMagic, HasNoMagic, IsBehindWhite, HasNoWhite, HasNoNumber, HasNoHead}
use Rattle.texture.proofs.Numerals.{number_same}

tails : (a b c : ℕ) (d : ℕ) (xs ys : List ℕ) → a ∷ b ∷ xs ≡ c ∷ d ∷ ys → xs ≡ ys
tails a b c d xs ys e = cc

-- the parts of a header, by what has been read of it
pub at_width : (bytes b1 : List ℕ) (w h m : ℕ) (r : List ℕ) → IsBehindMagic bytes b1 → (i : IsHead bytes w h m r) → IsNumber b1 w i.behind_width
at_width bytes b1 w h m r e i = subst (λ x. IsNumber x w i.behind_width) (tails 80 54 80 54 i.behind_magic b1 (sym i.magic ∙ e)) i.width_text

pub at_height : (bytes b1 b2 : List ℕ) (v w h m : ℕ) (r : List ℕ) → IsBehindMagic bytes b1 → IsNumber b1 v b2 → (i : IsHead bytes w h m r) → IsNumber b2 h i.behind_height
at_height bytes b1 b2 v w h m r e f i =
    let s = number_same b1 w v i.behind_width b2 (at_width bytes b1 w h m r e i) f in
    subst (λ x. IsNumber x h i.behind_height) s.1 i.height_text

pub at_most : (bytes b1 b2 b3 : List ℕ) (v u w h m : ℕ) (r : List ℕ) → IsBehindMagic bytes b1 → IsNumber b1 v b2 → IsNumber b2 u b3 → (i : IsHead bytes w h m r) → IsNumber b3 m (i.white ∷ r)
at_most bytes b1 b2 b3 v u w h m r e f g i =
    let s = number_same b2 h u i.behind_height b3 (at_height bytes b1 b2 v w h m r e f i) g in
    subst (λ x. IsNumber x m (i.white ∷ r)) s.1 i.most_text

pub at_white : (bytes b1 b2 b3 b4 : List ℕ) (v u t w h m : ℕ) (r : List ℕ) → IsBehindMagic bytes b1 → IsNumber b1 v b2 → IsNumber b2 u b3 → IsNumber b3 t b4 → IsHead bytes w h m r → IsBehindWhite b4 r
at_white bytes b1 b2 b3 b4 v u t w h m r e f g k i =
    let s = number_same b3 m t (i.white ∷ r) b4 (at_most bytes b1 b2 b3 v u w h m r e f g i) k in
    record { white = i.white; text = sym s.1; passes = i.passes }

-- no header
pub no_magic : (bytes : List ℕ) → HasNoMagic bytes → HasNoHead bytes
no_magic bytes n w h m r i = n i.behind_magic i.magic

pub no_width : (bytes b1 : List ℕ) → IsBehindMagic bytes b1 → HasNoNumber b1 → HasNoHead bytes
no_width bytes b1 e n w h m r i = n w i.behind_width (at_width bytes b1 w h m r e i)

pub no_height : (bytes b1 b2 : List ℕ) (v : ℕ) → IsBehindMagic bytes b1 → IsNumber b1 v b2 → HasNoNumber b2 → HasNoHead bytes
no_height bytes b1 b2 v e f n w h m r i = n h i.behind_height (at_height bytes b1 b2 v w h m r e f i)

pub no_most : (bytes b1 b2 b3 : List ℕ) (v u : ℕ) → IsBehindMagic bytes b1 → IsNumber b1 v b2 → IsNumber b2 u b3 → HasNoNumber b3 → HasNoHead bytes
no_most bytes b1 b2 b3 v u e f g n w h m r i = n m (i.white ∷ r) (at_most bytes b1 b2 b3 v u w h m r e f g i)

pub no_white : (bytes b1 b2 b3 b4 : List ℕ) (v u t : ℕ) → IsBehindMagic bytes b1 → IsNumber b1 v b2 → IsNumber b2 u b3 → IsNumber b3 t b4 → HasNoWhite b4 → HasNoHead bytes
no_white bytes b1 b2 b3 b4 v u t e f g k n w h m r i = n r (at_white bytes b1 b2 b3 b4 v u t w h m r e f g k i)

-- a header that was read
pub head_made : (bytes b1 b2 b3 b4 r : List ℕ) (w h m : ℕ) → IsBehindMagic bytes b1 → IsNumber b1 w b2 → IsNumber b2 h b3 → IsNumber b3 m b4 → IsBehindWhite b4 r → IsHead bytes w h m r
head_made bytes b1 b2 b3 b4 r w h m e f g k b = record {
  behind_magic = b1;
  behind_width = b2;
  behind_height = b3;
  white = b.white;
  magic = e;
  width_text = f;
  height_text = g;
  most_text = subst (IsNumber b3 m) b.text k;
  passes = b.passes;
}

-- two readings of a header are one
pub record AreSame (w h m v u t : ℕ) (r s : List ℕ) : Type 0 where
  pub width : w ≡ v
  pub height : h ≡ u
  pub most : m ≡ t
  pub rest : r ≡ s

white_same : (a b : ℕ) (r s : List ℕ) → a ∷ r ≡ b ∷ s → r ≡ s
white_same a b r s e = cc

pub head_same : (bytes : List ℕ) (w h m v u t : ℕ) (r s : List ℕ) → IsHead bytes w h m r → IsHead bytes v u t s → AreSame w h m v u t r s
head_same bytes w h m v u t r s i j =
    let a = number_same j.behind_magic w v i.behind_width j.behind_width (at_width bytes j.behind_magic w h m r j.magic i) j.width_text in
    let b = number_same j.behind_width h u i.behind_height j.behind_height (at_height bytes j.behind_magic j.behind_width v w h m r j.magic j.width_text i) j.height_text in
    let c = number_same j.behind_height m t (i.white ∷ r) (j.white ∷ s) (at_most bytes j.behind_magic j.behind_width j.behind_height v u w h m r j.magic j.width_text j.height_text i) j.most_text in
    record { width = a.0; height = b.0; most = c.0; rest = white_same i.white j.white r s c.1 }
