-- A text that grows by a part for each number of a row.
use Rattle.std.proofs.Common.{◌≡◌, ℕ, zero, suc, ◌+◌, List, [], ◌∷◌, ◌++◌, ap, sym, ◌∙◌, arith, append_assoc}
use Rattle.std.specs.List.{range_with_len, flat_map}
use Rattle.std.proofs.lemmas.List.{flat_map_more}

range_more : (a n j : ℕ) → a + n ≡ j → range_with_len a (n + 1) ≡ range_with_len a n ++ j ∷ []
range_more a zero j is = let e : a ≡ j = omega (arith, is) in ap (λ (k : ℕ). k ∷ []) e
range_more a (suc n) j is =
    let e : (a + 1) + n ≡ j = omega (arith, is) in
    let one : suc n + 1 ≡ suc (n + 1) = omega arith in
    ap (range_with_len a) one ∙ ap (λ l. a ∷ l) (range_more (a + 1) n j e)

-- one part more, that of number j
pub grown : (part : ℕ → List ℕ) (front old new : List ℕ) (a n j : ℕ) → a + n ≡ j → old ≡ front ++ flat_map part (range_with_len a n) → new ≡ old ++ part j → new ≡ front ++ flat_map part (range_with_len a (n + 1))
grown part front old new a n j at is more =
    more ∙ ap (λ l. l ++ part j) is ∙ flat_map_more part front (range_with_len a n) j ∙ ap (λ l. front ++ flat_map part l) (sym (range_more a n j at))

-- two parts more, and three
pub with_two : (a b before one both : List ℕ) → one ≡ before ++ a → both ≡ one ++ b → both ≡ before ++ (a ++ b)
with_two a b before one both first second = second ∙ ap (λ l. l ++ b) first ∙ append_assoc before a b

pub with_three : (a b c before one two all : List ℕ) → one ≡ before ++ a → two ≡ one ++ b → all ≡ two ++ c → all ≡ before ++ (a ++ (b ++ c))
with_three a b c before one two all first second third =
    with_two a (b ++ c) before one all first (with_two b c one two all second third)
