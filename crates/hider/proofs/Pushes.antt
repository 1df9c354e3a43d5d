-- A list made of one number after another.
use Rattle.std.proofs.Common.{◌≡◌, ℕ, ◌+◌, ◌∙◌, ◌++◌, ◌∷◌, [], List, arith, ap, sym, map}
use Rattle.std.specs.List.{range_with_len}
use Rattle.std.proofs.lemmas.List.FromFn.{map-range_with_len_more}

-- with the item of the number n pushed, the list is that of the first n + 1 numbers
pub pushed : {X : Type 0} (f : ℕ → X) (n : ℕ) (old new : List X) (x : X) → new ≡ old ++ x ∷ [] → old ≡ map f (range_with_len 0 n) → x ≡ f n →
    new ≡ map f (range_with_len 0 (n + 1))
pushed f n old new x e o i =
    let z : 0 + n ≡ n = omega arith in
    e ∙ ap (λ l. l ++ x ∷ []) o ∙ ap (λ y. map f (range_with_len 0 n) ++ y ∷ []) i ∙ sym (map-range_with_len_more f 0 n n z)
