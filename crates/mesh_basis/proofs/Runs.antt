-- Sums and lists over a run of whole numbers.
use Rattle.std.proofs.Common.{◌≡◌, ◌∙◌, ap, sym, refl, arith, ℕ, zero, suc, ◌+◌, ◌-◌, ◌<◌, ◌≤◌, List, [], ◌∷◌, ◌++◌, append_assoc, map, Option, Some, None}
use Rattle.std.specs.Prelude.{ℤ, ◌+ℤ◌, option_map}
use Rattle.std.proofs.lemmas.Int.{ints}
use Rattle.std.specs.List.{range_with_len}
use Rattle.std.proofs.lemmas.List.{append-nil}
use Rattle.std.proofs.lemmas.List.FromFn.{map-range_with_len_more}
use Rattle.mesh_basis.specs.Ranges.{with_next}
use Rattle.mesh_basis.specs.Meshes.{all_from}
use Rattle.mesh_basis.specs.Polygons.{sum_from}

-- ---- sums

sum_last : (f : ℕ → ℤ) (k n : ℕ) → sum_from f k (suc n) ≡ sum_from f k n +ℤ f (k + n)
unfolding sum_from
sum_last f k zero = let e = ap f (add_zero k) in omega (arith, ints, e)
  where
    add_zero : (k : ℕ) → k + 0 ≡ k
    add_zero k = omega arith
sum_last f k (suc n) =
    let e = sum_last f (k + 1) n in
    let g : k + 1 + n ≡ k + suc n = omega arith in
    let h = ap f g in
    omega (arith, ints, e, h)

-- the sum from 1 to before k + 1
pub sum_more : (f : ℕ → ℤ) (k : ℕ) → 1 ≤ k → sum_from f 1 (k + 1 - 1) ≡ sum_from f 1 (k - 1) +ℤ f k
sum_more f zero h = absurd (omega arith)
sum_more f (suc k) h =
    let e : suc k + 1 - 1 ≡ suc k = omega arith in
    let g : suc k - 1 ≡ k = omega arith in
    let i : 1 + k ≡ suc k = omega arith in
    ap (sum_from f 1) e ∙ sum_last f 1 k ∙ ap (λ n. sum_from f 1 k +ℤ f n) i ∙ ap (λ n. sum_from f 1 n +ℤ f (suc k)) (sym g)

-- ---- lists

abbrev pub with_front : {A : Type 0} → List A → Option (List A) → Option (List A)
with_front xs o = option_map (λ ys. xs ++ ys) o

pub all_step : {A : Type 0} (f : ℕ → Option A) (k n : ℕ) → k < n → all_from f k (n - k) ≡ with_next (f k) (all_from f (k + 1) (n - (k + 1)))
unfolding all_from
all_step f k n h =
    let e : n - k ≡ suc (n - (k + 1)) = omega arith in
    ap (all_from f k) e

front_next : {A : Type 0} (xs : List A) (x : A) (o : Option (List A)) → with_front xs (with_next (Some x) o) ≡ with_front (xs ++ x ∷ []) o
front_next xs x None = refl
front_next xs x (Some ys) = ap (λ l. Some l) (sym (append_assoc xs (x ∷ []) ys))

front_none : {A : Type 0} (xs : List A) (o : Option (List A)) → with_front xs (with_next None o) ≡ None
front_none xs None = refl
front_none xs (Some ys) = refl

-- one more of n, none there, and no more
pub run_next : {A : Type 0} (f : ℕ → Option A) (k n : ℕ) (xs ys : List A) (x : A) (all : Option (List A)) → k < n → f k ≡ Some x → ys ≡ xs ++ x ∷ [] →
    with_front xs (all_from f k (n - k)) ≡ all → with_front ys (all_from f (k + 1) (n - (k + 1))) ≡ all
run_next f k n xs ys x all h e g inv =
    let rest = all_from f (k + 1) (n - (k + 1)) in
    ap (λ l. with_front l rest) g ∙ sym (front_next xs x rest) ∙ sym (ap (with_front xs) (all_step f k n h ∙ ap (λ o. with_next o rest) e)) ∙ inv

pub run_none : {A : Type 0} (f : ℕ → Option A) (k n : ℕ) (xs : List A) (all : Option (List A)) → k < n → f k ≡ None →
    with_front xs (all_from f k (n - k)) ≡ all → all ≡ None
run_none f k n xs all h e inv =
    let rest = all_from f (k + 1) (n - (k + 1)) in
    sym inv ∙ ap (with_front xs) (all_step f k n h ∙ ap (λ o. with_next o rest) e) ∙ front_none xs rest

pub run_end : {A : Type 0} (f : ℕ → Option A) (k n : ℕ) (xs : List A) (all : Option (List A)) → n ≤ k →
    with_front xs (all_from f k (n - k)) ≡ all → all ≡ Some xs
unfolding all_from
run_end f k n xs all h inv =
    let e : n - k ≡ 0 = omega arith in
    sym inv ∙ ap (λ m. with_front xs (all_from f k m)) e ∙ ap (λ l. Some l) (append-nil xs)

pub list_next : {A : Type 0} (f : ℕ → A) (k : ℕ) (xs ys : List A) (x : A) → ys ≡ xs ++ x ∷ [] → x ≡ f k → xs ≡ map f (range_with_len 0 k) → ys ≡ map f (range_with_len 0 (k + 1))
list_next f k xs ys x e g inv =
    e ∙ ap (λ l. l ++ x ∷ []) inv ∙ ap (λ z. map f (range_with_len 0 k) ++ z ∷ []) g ∙ sym (map-range_with_len_more f 0 k k (omega arith))

pub sum_next : (f : ℕ → ℤ) (k : ℕ) (s t u : ℤ) → 1 ≤ k → s ≡ t +ℤ u → t ≡ sum_from f 1 (k - 1) → u ≡ f k → s ≡ sum_from f 1 (k + 1 - 1)
sum_next f k s t u h e g i = e ∙ rw (g, i) (sym (sum_more f k h))
