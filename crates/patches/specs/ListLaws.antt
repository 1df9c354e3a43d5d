-- What holds of each item of joined lists.
use Rattle.std.proofs.Common.{arith, List, [], ◌∷◌, ◌++◌, map}
use Rattle.std.specs.Prelude.{ℤ, ◌≤ℤ◌}
use Rattle.std.specs.Int.{int_min, int_max}
use Rattle.std.specs.List.{fold}
use Rattle.std.proofs.lemmas.Int.{ints, clamps}
use Rattle.patches.specs.Lists.{Each, grid}

pub Each-append : {A : Type 0} (P : A → Type 0) (xs ys : List A) → Each P xs → Each P ys → Each P (xs ++ ys)
Each-append P [] ys e f = f
Each-append P (x ∷ xs) ys e f = (e.0, Each-append P xs ys e.1 f)

pub Each-front : {A : Type 0} (P : A → Type 0) (xs ys : List A) → Each P (xs ++ ys) → Each P xs
Each-front P [] ys e = tt
Each-front P (x ∷ xs) ys e = (e.0, Each-front P xs ys e.1)

pub Each-back : {A : Type 0} (P : A → Type 0) (xs ys : List A) → Each P (xs ++ ys) → Each P ys
Each-back P [] ys e = e
Each-back P (x ∷ xs) ys e = Each-back P xs ys e.1

pub Each-map : {A B : Type 0} (P : B → Type 0) (f : A → B) (xs : List A) → Each P (map f xs) → Each (λ x. P (f x)) xs
Each-map P f [] e = tt
Each-map P f (x ∷ xs) e = (e.0, Each-map P f xs e.1)

pub map-Each : {A B : Type 0} (P : B → Type 0) (f : A → B) (xs : List A) → Each (λ x. P (f x)) xs → Each P (map f xs)
map-Each P f [] e = tt
map-Each P f (x ∷ xs) e = (e.0, map-Each P f xs e.1)

pub Each-weaken : {A : Type 0} (P Q : A → Type 0) (xs : List A) → ((x : A) → P x → Q x) → Each P xs → Each Q xs
Each-weaken P Q [] f e = tt
Each-weaken P Q (x ∷ xs) f e = (f x e.0, Each-weaken P Q xs f e.1)

-- of each item of a grid: of each column in each row
pub Each-grid : {A B : Type 0} (P : B → Type 0) (f : A → A → B) (us vs : List A) → Each P (grid f us vs) → Each (λ v. Each (λ u. P (f u v)) us) vs
Each-grid P f us [] e = tt
Each-grid P f us (v ∷ vs) e = (
  Each-map P (λ u. f u v) us (Each-front P (map (λ u. f u v) us) (grid f us vs) e),
  Each-grid P f us vs (Each-back P (map (λ u. f u v) us) (grid f us vs) e),
)

pub grid-Each : {A B : Type 0} (P : B → Type 0) (f : A → A → B) (us vs : List A) → Each (λ v. Each (λ u. P (f u v)) us) vs → Each P (grid f us vs)
grid-Each P f us [] e = tt
grid-Each P f us (v ∷ vs) e =
    Each-append P (map (λ u. f u v) us) (grid f us vs) (map-Each P (λ u. f u v) us e.0) (grid-Each P f us vs e.1)

-- the least of a list is below each, and above what is below each
pub fold_min_below : {A : Type 0} (f : A → ℤ) (m : ℤ) (xs : List A) → (fold (λ n x. int_min n (f x)) m xs ≤ℤ m) × Each (λ x. fold (λ n y. int_min n (f y)) m xs ≤ℤ f x) xs
fold_min_below f m [] = (omega (arith, ints), tt)
fold_min_below f m (x ∷ xs) =
    let h = fold_min_below f (int_min m (f x)) xs in
    let low = h.0 in
    (omega (arith, ints, clamps), (omega (arith, ints, clamps), h.1))

pub fold_max_above : {A : Type 0} (f : A → ℤ) (m : ℤ) (xs : List A) → (m ≤ℤ fold (λ n x. int_max n (f x)) m xs) × Each (λ x. f x ≤ℤ fold (λ n y. int_max n (f y)) m xs) xs
fold_max_above f m [] = (omega (arith, ints), tt)
fold_max_above f m (x ∷ xs) =
    let h = fold_max_above f (int_max m (f x)) xs in
    let low = h.0 in
    (omega (arith, ints, clamps), (omega (arith, ints, clamps), h.1))

pub fold_min_from : {A : Type 0} (f : A → ℤ) (m k : ℤ) (xs : List A) → k ≤ℤ m → Each (λ x. k ≤ℤ f x) xs → k ≤ℤ fold (λ n x. int_min n (f x)) m xs
fold_min_from f m k [] h e = h
fold_min_from f m k (x ∷ xs) h e = let here = e.0 in fold_min_from f (int_min m (f x)) k xs (omega (arith, ints, clamps)) e.1

pub fold_max_to : {A : Type 0} (f : A → ℤ) (m k : ℤ) (xs : List A) → m ≤ℤ k → Each (λ x. f x ≤ℤ k) xs → fold (λ n x. int_max n (f x)) m xs ≤ℤ k
fold_max_to f m k [] h e = h
fold_max_to f m k (x ∷ xs) h e = let here = e.0 in fold_max_to f (int_max m (f x)) k xs (omega (arith, ints, clamps)) e.1
