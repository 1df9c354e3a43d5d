-- The first cause among those of the items of a list, one after the other.
use Rattle.std.proofs.Common.{◌≡◌, ℕ, suc, ◌+◌, ◌<◌, List, [], ◌∷◌, length, get_or, map, drop, drop-cons, Option, Some, None, All, refl, sym, ap, ◌∙◌, subst, add-one}
use Rattle.std.proofs.lemmas.List.Elements.{All-nil, All-cons}
use Rattle.acceptance.specs.declared.refusal.Refusal.{Refusal}
use Rattle.acceptance.specs.Causes.{Cause, or_else, first_of}
use Rattle.acceptance.specs.Answers.{Because}
use Rattle.acceptance.proofs.ReadAll.{because_first}

-- what is left begins with the item
pub ahead : {A : Type 0} (xs : List A) (i : ℕ) (x : A) → i < length xs → x ≡ get_or xs i x → drop i xs ≡ x ∷ drop (i + 1) xs
ahead xs i x low is =
    drop-cons xs i x low ∙ ap (λ y. y ∷ drop (suc i) xs) (sym is) ∙ ap (λ k. x ∷ drop k xs) (sym (add-one i))

-- an item without a cause
pub first_next : {A : Type 0} (f : A → Option Cause) (xs : List A) (i : ℕ) (x : A) (total : Option Cause) → i < length xs → x ≡ get_or xs i x
    → f x ≡ None → first_of (map f (drop i xs)) ≡ total → first_of (map f (drop (i + 1) xs)) ≡ total
first_next f xs i x total low is none so_far =
    sym (ap (λ o. or_else o (first_of (map f (drop (i + 1) xs)))) none) ∙ ap (λ ys. first_of (map f ys)) (sym (ahead xs i x low is)) ∙ so_far

-- an item that is refused
pub first_here : {A : Type 0} (f : A → Option Cause) (xs : List A) (i : ℕ) (x : A) (total : Option Cause) (r : Refusal) → i < length xs → x ≡ get_or xs i x
    → Because r (f x) → first_of (map f (drop i xs)) ≡ total → Because r total
first_here f xs i x total r low is because so_far =
    subst (λ o. Because r o) (ap (λ ys. first_of (map f ys)) (sym (ahead xs i x low is)) ∙ so_far)
    (because_first r (f x) (first_of (map f (drop (i + 1) xs))) because)

both_none : (a b : Option Cause) → or_else a b ≡ None → (a ≡ None) × (b ≡ None)
both_none None b h = (refl, h)
both_none (Some cause) b h = absurd (cc h)

-- where there is no first one there is none
pub none_of : {A : Type 0} (f : A → Option Cause) (xs : List A) → first_of (map f xs) ≡ None → All (λ x. f x ≡ None) xs
none_of f [] h = All-nil (λ x. f x ≡ None)
none_of f (x ∷ xs) h =
    let both = both_none (f x) (first_of (map f xs)) h in
    All-cons (λ y. f y ≡ None) x xs both.0 (none_of f xs both.1)
