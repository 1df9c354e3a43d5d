-- The last of a name among things in the order of their declaration: where it stands, and that it is what the place of the name tells.
use Rattle.std.proofs.Common.{◌≡◌, ◌<◌, ℕ, zero, suc, cond, List, [], ◌∷◌, map, get_or, length, Option, Some, None, option_map, refl, sym, ap, ap₂, ◌∙◌, subst, arith}
use Rattle.std.proofs.lemmas.Bool.{cond_both}
use Rattle.std.specs.Option.{option_or}
use Rattle.std.specs.Str.{bytes_eq}
use Rattle.fixed_math.specs.Names.{last_place}
use Rattle.sl_expressions.specs.Scope.{last_named, one_further}

abbrev Named : {A : Type 0} → (A → List ℕ) → List ℕ → List A → Option ℕ → Type 0
Named of name xs None = last_named of name xs ≡ None
Named {A} of name xs (Some k) = (k < length xs) × ((x : A) → last_named of name xs ≡ Some (k, get_or xs k x))

after_head : {A : Type 0} (of : A → List ℕ) (name : List ℕ) (x : A) (xs : List A) (o : Option ℕ) → Named of name xs o
    → Named of name (x ∷ xs) (option_or (option_map suc o) (cond (bytes_eq (of x) name) (Some 0) None))
after_head of name x xs (Some k) h = (omega (arith, h.0), λ d. ap (λ o. option_or (option_map one_further o) (cond (bytes_eq (of x) name) (Some (0, x)) None)) (h.1 d))
after_head of name x xs None h =
    cond_both (bytes_eq (of x) name) (Some 0) None (λ o. Named of name (x ∷ xs) o)
    (λ e. (omega arith, λ d. ap₂ (λ o b. option_or (option_map one_further o) (cond b (Some (0, x)) None)) h e))
    (λ e. ap₂ (λ o b. option_or (option_map one_further o) (cond b (Some (0, x)) None)) h e)

named : {A : Type 0} (of : A → List ℕ) (name : List ℕ) (xs : List A) → Named of name xs (last_place name (map of xs))
named of name [] = refl
named of name (x ∷ xs) = after_head of name x xs (last_place name (map of xs)) (named of name xs)

-- what a look-up by place gives, seen
abbrev pub FoundAt : {A B : Type 0} → (A → B) → (B → List ℕ) → List ℕ → List A → Option ℕ → Type 0
FoundAt view of name xs None = None ≡ last_named of name (map view xs)
FoundAt {A} view of name xs (Some k) = (k < length xs) × ((x : A) → x ≡ get_or xs k x → Some (k, view x) ≡ last_named of name (map view xs))

seen : {A B : Type 0} (view : A → B) (xs : List A) (k : ℕ) (x : A) → k < length xs → get_or (map view xs) k (view x) ≡ view (get_or xs k x)
seen view [] k x low = absurd (omega (arith, low))
seen view (y ∷ ys) zero x low = refl
seen view (y ∷ ys) (suc k) x low = seen view ys k x (omega (arith, low))

as_long : {A B : Type 0} (view : A → B) (xs : List A) → length (map view xs) ≡ length xs
as_long view [] = refl
as_long view (x ∷ xs) = ap suc (as_long view xs)

twice : {A B : Type 0} (view : A → B) (of : B → List ℕ) (xs : List A) → map of (map view xs) ≡ map (λ x. of (view x)) xs
twice view of [] = refl
twice view of (x ∷ xs) = ap (λ r. of (view x) ∷ r) (twice view of xs)

from_named : {A B : Type 0} (view : A → B) (of : B → List ℕ) (name : List ℕ) (xs : List A) (o : Option ℕ) → Named of name (map view xs) o → FoundAt view of name xs o
from_named view of name xs None h = sym h
from_named view of name xs (Some k) h =
    let low : k < length xs = omega (arith, h.0, as_long view xs) in
    (low, λ x is. sym (h.1 (view x) ∙ ap (λ y. Some (k, y)) (seen view xs k x low ∙ ap view (sym is))))

pub found_at : {A B : Type 0} (view : A → B) (of : B → List ℕ) (name : List ℕ) (xs : List A) (o : Option ℕ) → o ≡ last_place name (map (λ x. of (view x)) xs) → FoundAt view of name xs o
found_at view of name xs o is =
    from_named view of name xs o (subst (Named of name (map view xs)) (ap (last_place name) (twice view of xs) ∙ sym is) (named of name (map view xs)))

-- what is found stands there
abbrev pub StandsAt : {A : Type 0} → List A → Option (ℕ × A) → Type 0
StandsAt xs None = Unit {0}
StandsAt xs (Some r) = (r.0 < length xs) × (get_or xs r.0 r.1 ≡ r.1)

stands_after : {A : Type 0} (x : A) (xs : List A) (o e : Option (ℕ × A)) → StandsAt xs o → StandsAt (x ∷ xs) e → StandsAt (x ∷ xs) (option_or (option_map one_further o) e)
stands_after x xs None e h k = k
stands_after x xs (Some r) e h k = (omega (arith, h.0), h.1)

pub stands_at : {A : Type 0} (of : A → List ℕ) (name : List ℕ) (xs : List A) → StandsAt xs (last_named of name xs)
stands_at of name [] = tt
stands_at of name (x ∷ xs) =
    stands_after x xs (last_named of name xs) (cond (bytes_eq (of x) name) (Some (0, x)) None) (stands_at of name xs)
    (cond_both (bytes_eq (of x) name) (Some (0, x)) None (λ o. StandsAt (x ∷ xs) o) (λ e. (omega arith, refl)) (λ e. tt))
