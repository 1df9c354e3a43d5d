-- Numbers in four bytes at the front of texts.
use Rattle.std.proofs.Common.{◌≡◌, ◌∙◌, ap, sym, refl, ℕ, ◌+◌, ◌^◌, ◌<◌, ◌≤◌, arith, List, ◌++◌, length, take, drop, get_or, subst, ⊎_elim}
use Rattle.std.specs.Int.{w32, from_be_bytes}
use Rattle.std.proofs.lemmas.Nat.{from_be_bytes-to_be_bytes_4, be_bytes_4}
use Rattle.std.proofs.lemmas.Bool.{cases_lt}
use Rattle.std.proofs.lemmas.List.{take-append-drop, length-take-le, get_or-take, get_or_past}
use Rattle.parts.specs.declared.header.Header.{Header}
use Rattle.parts.specs.Formats.{word, with_header, IsHeader, HasNoHead}

-- two numbers in front of two texts that are one
pub word_cancel : (m n : ℕ) (xs ys : List ℕ) → m < 2 ^ 32 → n < 2 ^ 32 → word m ++ xs ≡ word n ++ ys → (m ≡ n) × (xs ≡ ys)
word_cancel m n xs ys hm hn e =
    let front : word m ≡ word n = ap (take 4) e in
    (sym (from_be_bytes-to_be_bytes_4 m hm) ∙ ap (from_be_bytes w32) front ∙ from_be_bytes-to_be_bytes_4 n hn, ap (drop 4) e)

-- what is read is in front
small_front : (bytes : List ℕ) → 4 ≤ length bytes → ((i : ℕ) → get_or bytes i 0 < 256) → (i : ℕ) → get_or (take 4 bytes) i 0 < 256
small_front bytes l h i =
    ⊎_elim
    (λ (s : i < 4). let e = get_or-take 4 bytes i 0 s in let f = h i in omega (arith, e, f))
    (λ (s : 4 ≤ i). let n = length-take-le 4 bytes l in let e = get_or_past (take 4 bytes) i 0 (omega (arith, n, s)) in omega (arith, e))
    (cases_lt i 4)

pub word_read : (bytes front rest : List ℕ) (n : ℕ) → front ≡ take 4 bytes → rest ≡ drop 4 bytes → 4 ≤ length bytes → ((i : ℕ) → get_or bytes i 0 < 256) → n ≡ from_be_bytes w32 front → word n ++ rest ≡ bytes
word_read bytes front rest n f r l h e =
    let long : length front ≡ 4 = ap length f ∙ length-take-le 4 bytes l in
    let small : (i : ℕ) → get_or front i 0 < 256 = subst (λ (xs : List ℕ). (i : ℕ) → get_or xs i 0 < 256) (sym f) (small_front bytes l h) in
    ap (λ (xs : List ℕ). xs ++ rest) (be_bytes_4 front n long small e ∙ f) ∙ ap (λ (xs : List ℕ). take 4 bytes ++ xs) r ∙ take-append-drop 4 bytes

-- the eight numbers in front of a part
abbrev pub eight : ℕ → ℕ → ℕ → ℕ → ℕ → ℕ → ℕ → ℕ → List ℕ → List ℕ
eight a b c d e f g h xs = word a ++ (word b ++ (word c ++ (word d ++ (word e ++ (word f ++ (word g ++ (word h ++ xs)))))))

pub eight_is : (h : Header) (n : ℕ) (xs : List ℕ) → with_header h n xs ≡ eight 1380276560 1095914545 h.width h.height h.one h.side h.tag n xs
eight_is h n xs = refl

pub length-with_header : (h : Header) (n : ℕ) (xs : List ℕ) → length (with_header h n xs) ≡ 32 + length xs
length-with_header h n xs = omega arith

abbrev pub header_by : ℕ → ℕ → ℕ → ℕ → ℕ → Header
header_by w h o s t = record { width = w; height = h; one = o; side = s; tag = t }

-- the header in front of a text is one
pub head_same : (a b w h o s t n : ℕ) (xs ys : List ℕ) (k : Header) (m : ℕ) → a < 2 ^ 32 → b < 2 ^ 32 → w < 2 ^ 32 → h < 2 ^ 32 → o < 2 ^ 32 → s < 2 ^ 32 → t < 2 ^ 32 → n < 2 ^ 32 →
    IsHeader k → m < 2 ^ 32 → with_header k m ys ≡ eight a b w h o s t n xs →
    (1380276560 ≡ a) × (1095914545 ≡ b) × (k ≡ header_by w h o s t) × (m ≡ n) × (ys ≡ xs)
head_same a b w h o s t n xs ys k m ha hb hw hh ho hs ht hn hk hm e =
    let e0 = word_cancel 1380276560 a _ _ (omega arith) ha e in
    let e1 = word_cancel 1095914545 b _ _ (omega arith) hb e0.1 in
    let e2 = word_cancel k.width w _ _ (let r = hk.wide in omega arith) hw e1.1 in
    let e3 = word_cancel k.height h _ _ (let r = hk.high in omega arith) hh e2.1 in
    let e4 = word_cancel k.one o _ _ (let r = hk.one in omega arith) ho e3.1 in
    let e5 = word_cancel k.side s _ _ (let r = hk.side in omega arith) hs e4.1 in
    let e6 = word_cancel k.tag t _ _ hk.tag ht e5.1 in
    let e7 = word_cancel m n _ _ hm hn e6.1 in
    let same : k ≡ header_by w h o s t =
    ap (λ x. header_by x k.height k.one k.side k.tag) e2.0 ∙ ap (λ x. header_by w x k.one k.side k.tag) e3.0 ∙ ap (λ x. header_by w h x k.side k.tag) e4.0
    ∙ ap (λ x. header_by w h o x k.tag) e5.0 ∙ ap (λ x. header_by w h o s x) e6.0 in
    (e0.0, e1.0, same, e7.0, e7.1)

pub too_short : (bytes : List ℕ) → length bytes < 32 → HasNoHead bytes
too_short bytes l h n rest k = let e = ap length k.text in let f = length-with_header h n rest in absurd (omega (arith, e, f, l))
