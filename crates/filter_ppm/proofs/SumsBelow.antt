-- Sums of the first numbers of a sequence.
use Rattle.std.proofs.Common.{◌≡◌, ℕ, zero, suc, ◌+◌, ◌-◌, ◌*◌, ◌<◌, ◌≤◌, arith, refl, sym, ◌∙◌, ap, inl, inr, List, [], ◌∷◌, ◌++◌, map}
use Rattle.std.specs.Prelude.{ℤ, pos, ◌+ℤ◌, ◌⊎◌}
use Rattle.std.specs.List.{range_with_len}
use Rattle.std.proofs.lemmas.Int.{ints}
use Rattle.std.proofs.lemmas.List.FromFn.{map-range_with_len_more}
use Rattle.filter_ppm.specs.Mean.{sum_of}

-- the sum of g 0 to g (n - 1)
abbrev pub sum_below : (ℕ → ℤ) → ℕ → ℤ
sum_below g zero = pos 0
sum_below g (suc n) = sum_below g n +ℤ g n

pub below_same : (g h : ℕ → ℤ) (n : ℕ) → ((i : ℕ) → i < n → g i ≡ h i) → sum_below g n ≡ sum_below h n
below_same g h zero e = refl
below_same g h (suc n) e = ap (λ z. z +ℤ g n) (below_same g h n (λ i l. e i (omega (arith, l)))) ∙ ap (λ z. sum_below h n +ℤ z) (e n (omega arith))

pub below_none : (g : ℕ → ℤ) (n : ℕ) → ((i : ℕ) → i < n → g i ≡ pos 0) → sum_below g n ≡ pos 0
below_none g zero e = refl
below_none g (suc n) e =
    let a = below_none g n (λ i l. e i (omega (arith, l))) in
    let b = e n (omega arith) in
    omega (arith, ints, a, b)

pub below_add : (g : ℕ → ℤ) (a b : ℕ) → sum_below g (a + b) ≡ sum_below g a +ℤ sum_below (λ i. g (a + i)) b
below_add g a zero = let e : a + 0 ≡ a = omega arith in ap (sum_below g) e ∙ omega (arith, ints)
below_add g a (suc b) =
    let e : a + suc b ≡ suc (a + b) = omega arith in
    let i = below_add g a b in
    ap (sum_below g) e ∙ omega (arith, ints, i)

-- numbers that are 0 outside a part
pub below_between : (g : ℕ → ℤ) (a b n : ℕ) → a ≤ b → b ≤ n → ((i : ℕ) → i < n → (i < a) ⊎ (b ≤ i) → g i ≡ pos 0) → sum_below g n ≡ sum_below (λ i. g (a + i)) (b - a)
below_between g a b n h k z =
    let e : a + (b - a) + (n - b) ≡ n = omega arith in
    let whole = below_add g (a + (b - a)) (n - b) in
    let front = below_add g a (b - a) in
    let none = below_none g a (λ i l. z i (omega (arith, l)) (inl l)) in
    let rest = below_none (λ i. g (a + (b - a) + i)) (n - b) (λ i l. z (a + (b - a) + i) (omega (arith, l)) (inr (omega arith))) in
    ap (sum_below g) (sym e) ∙ omega (arith, ints, whole, front, none, rest)

-- m runs of k numbers
pub below_times : (g : ℕ → ℤ) (m k : ℕ) → sum_below g (m * k) ≡ sum_below (λ p. sum_below (λ c. g (p * k + c)) k) m
below_times g zero k = let e : 0 * k ≡ 0 = omega arith in ap (sum_below g) e
below_times g (suc m) k =
    let e : suc m * k ≡ m * k + k = omega arith in
    ap (sum_below g) e ∙ below_add g (m * k) k ∙ ap (λ z. z +ℤ sum_below (λ c. g (m * k + c)) k) (below_times g m k)

-- ---- sums over lists
pub sum_of-more : {A : Type 0} (g : A → ℤ) (xs : List A) (x : A) → sum_of g (xs ++ x ∷ []) ≡ sum_of g xs +ℤ g x
sum_of-more g [] x = omega (arith, ints)
sum_of-more g (y ∷ ys) x = let e = sum_of-more g ys x in omega (arith, ints, e)

pub sum_of_range : {A : Type 0} (g : A → ℤ) (h : ℕ → A) (n : ℕ) → sum_of g (map h (range_with_len 0 n)) ≡ sum_below (λ i. g (h i)) n
sum_of_range g h zero = refl
sum_of_range g h (suc n) =
    let e : suc n ≡ n + 1 = omega arith in
    let z : 0 + n ≡ n = omega arith in
    ap (λ m. sum_of g (map h (range_with_len 0 m))) e
    ∙ ap (sum_of g) (map-range_with_len_more h 0 n n z)
    ∙ sum_of-more g (map h (range_with_len 0 n)) (h n)
    ∙ ap (λ z. z +ℤ g (h n)) (sum_of_range g h n)
