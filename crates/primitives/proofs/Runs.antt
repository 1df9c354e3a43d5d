-- Lists that are made item by item.
use Rattle.std.proofs.Common.{◌≡◌, ◌∙◌, ap, sym, refl, arith, ℕ, zero, suc, ◌+◌, ◌<◌, ◌≤◌, List, [], ◌∷◌, ◌++◌, length, map, take, slice_index_or}
use Rattle.std.proofs.lemmas.List.{map-append}
use Rattle.std.proofs.Math.Seq.{take-suc}

-- one item more, each the image of one
pub one_mapped : {A B : Type 0} (f : A → B) (xs : List A) (k : ℕ) (d : A) (done more : List B) (y : B) → k < length xs → y ≡ f (slice_index_or xs k d) →
    more ≡ done ++ y ∷ [] → done ≡ map f (take k xs) → more ≡ map f (take (k + 1) xs)
one_mapped f xs k d done more y h e g inv =
    g ∙ ap (λ l. l ++ y ∷ []) inv ∙ ap (λ z. map f (take k xs) ++ z ∷ []) e
    ∙ sym (ap (map f) (ap (λ n. take n xs) (next k) ∙ take-suc xs k d h) ∙ map-append f (take k xs) (slice_index_or xs k d ∷ []))
  where
    next : (k : ℕ) → k + 1 ≡ suc k
    next k = omega arith

take_all : {A : Type 0} (xs : List A) (k : ℕ) → length xs ≤ k → take k xs ≡ xs
take_all [] zero h = refl
take_all [] (suc k) h = refl
take_all (x ∷ xs) zero h = absurd (omega arith)
take_all (x ∷ xs) (suc k) h = ap (λ l. x ∷ l) (take_all xs k (omega arith))

-- no item more
pub all_mapped : {A B : Type 0} (f : A → B) (xs : List A) (k : ℕ) (done : List B) → length xs ≤ k → done ≡ map f (take k xs) → done ≡ map f xs
all_mapped f xs k done h inv = inv ∙ ap (map f) (take_all xs k h)
