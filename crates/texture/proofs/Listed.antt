-- Lists of the values of a function.
use Rattle.std.proofs.Common.{◌≡◌, ◌∙◌, ap, refl, ℕ, zero, suc, ◌+◌, ◌<◌, ◌≤◌, [], ◌∷◌, ◌++◌, length, length-append, get_or, arith, ⊎_elim}
use Rattle.std.proofs.Math.ListN.{get_or-append}
use Rattle.std.proofs.lemmas.List.{get_or-append-add}
use Rattle.std.proofs.lemmas.Bool.{cases_lt}
use Rattle.texture.specs.Images.{listed}

pub length-listed : (n : ℕ) (f : ℕ → ℕ) → length (listed n f) ≡ n
unfolding listed
length-listed zero f = refl
length-listed (suc n) f = let e = length-listed n f in length-append (listed n f) (f n ∷ []) ∙ ap (λ k. k + 1) e ∙ (omega arith)

pub get_listed : (n : ℕ) (f : ℕ → ℕ) (k d : ℕ) → k < n → get_or (listed n f) k d ≡ f k
unfolding listed
get_listed zero f k d h = absurd (omega arith)
get_listed (suc n) f k d h =
    ⊎_elim
    (λ (s : k < n). get_or-append (listed n f) (f n ∷ []) d k (let e = length-listed n f in omega (arith, e)) ∙ get_listed n f k d s)
    (λ (s : n ≤ k).
    let e : k ≡ length (listed n f) + 0 = let e = length-listed n f in omega (arith, e) in
    let g : n ≡ k = omega arith in
    ap (λ i. get_or (listed n f ++ f n ∷ []) i d) e ∙ get_or-append-add (listed n f) (f n ∷ []) 0 d ∙ ap f g)
    (cases_lt k n)
