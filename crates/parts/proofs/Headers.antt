-- The header at the front of a text, read number by number.
use Rattle.std.proofs.Common.{◌≡◌, ◌∙◌, ap, sym, subst, ℕ, ◌^◌, ◌<◌, List, ◌++◌}
use Rattle.parts.specs.Formats.{word, IsHeader, HasNoHead}
use Rattle.parts.proofs.Words.{header_by, eight, head_same}

-- eight numbers read one after another
pub eight_from : (a b w h o s t n : ℕ) (bytes r1 r2 r3 r4 r5 r6 r7 r8 : List ℕ) → word a ++ r1 ≡ bytes → word b ++ r2 ≡ r1 → word w ++ r3 ≡ r2 → word h ++ r4 ≡ r3 → word o ++ r5 ≡ r4 → word s ++ r6 ≡ r5 → word t ++ r7 ≡ r6 → word n ++ r8 ≡ r7 →
    eight a b w h o s t n r8 ≡ bytes
eight_from a b w h o s t n bytes r1 r2 r3 r4 r5 r6 r7 r8 e1 e2 e3 e4 e5 e6 e7 e8 =
    ap (λ x. word a ++ (word b ++ (word w ++ (word h ++ (word o ++ (word s ++ (word t ++ x))))))) e8
    ∙ ap (λ x. word a ++ (word b ++ (word w ++ (word h ++ (word o ++ (word s ++ x)))))) e7
    ∙ ap (λ x. word a ++ (word b ++ (word w ++ (word h ++ (word o ++ x))))) e6
    ∙ ap (λ x. word a ++ (word b ++ (word w ++ (word h ++ x)))) e5
    ∙ ap (λ x. word a ++ (word b ++ (word w ++ x))) e4
    ∙ ap (λ x. word a ++ (word b ++ x)) e3
    ∙ ap (λ x. word a ++ x) e2
    ∙ e1

-- what is read isn't a header
pub head_fails : (a b w h o s t n : ℕ) (bytes rest : List ℕ) → a < 2 ^ 32 → b < 2 ^ 32 → w < 2 ^ 32 → h < 2 ^ 32 → o < 2 ^ 32 → s < 2 ^ 32 → t < 2 ^ 32 → n < 2 ^ 32 → eight a b w h o s t n rest ≡ bytes →
    ((1380276560 ≡ a) → (1095914545 ≡ b) → IsHeader (header_by w h o s t) → ⊥) → HasNoHead bytes
head_fails a b w h o s t n bytes rest ha hb hw hh ho hs ht hn e none k m ys i =
    let r = head_same a b w h o s t n rest ys k m ha hb hw hh ho hs ht hn i.header i.count (i.text ∙ sym e) in
    none r.0 r.1 (subst IsHeader r.2 i.header)
