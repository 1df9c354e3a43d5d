-- The sum over a square is the sum of the sums over its four quarters.
use Rattle.std.proofs.Common.{◌≡◌, ◌∙◌, ap, add-zero, sym, refl, ℕ, zero, suc, ◌+◌, ◌*◌, ◌<◌, arith}
use Rattle.texture.specs.Images.{Image}
use Rattle.texture.specs.Pyramid.{sample, sum_to, square_sum}

pub sum_to-add : (m n : ℕ) (f : ℕ → ℕ) → sum_to (m + n) f ≡ sum_to m f + sum_to n (λ i. f (m + i))
unfolding sum_to
sum_to-add m zero f = let e : m + 0 ≡ m = omega arith in ap (λ k. sum_to k f) e ∙ sym (add-zero (sum_to m f))
sum_to-add m (suc n) f =
    let d : m + suc n ≡ suc (m + n) = omega arith in
    let e = sum_to-add m n f in
    ap (λ k. sum_to k f) d ∙ (omega (arith, e))

pub sum_to-plus : (n : ℕ) (f g : ℕ → ℕ) → sum_to n (λ i. f i + g i) ≡ sum_to n f + sum_to n g
unfolding sum_to
sum_to-plus zero f g = refl
sum_to-plus (suc n) f g = let e = sum_to-plus n f g in omega (arith, e)

pub sum_to-same : (n : ℕ) (f g : ℕ → ℕ) → ((i : ℕ) → i < n → f i ≡ g i) → sum_to n f ≡ sum_to n g
unfolding sum_to
sum_to-same zero f g h = refl
sum_to-same (suc n) f g h =
    let e = sum_to-same n f g (λ i k. h i (omega arith)) in
    let d = h n (omega arith) in
    omega (arith, e, d)

pub sum_to-zero : (n : ℕ) (f : ℕ → ℕ) → ((i : ℕ) → i < n → f i ≡ 0) → sum_to n f ≡ 0
unfolding sum_to
sum_to-zero zero f h = refl
sum_to-zero (suc n) f h =
    let e = sum_to-zero n f (λ i k. h i (omega arith)) in
    let d = h n (omega arith) in
    omega (arith, e, d)

-- a row of the double square is the rows of its two halves
row_halves : (p : Image) (c m x r : ℕ) → sum_to (m + m) (λ i. sample p c (x * (m + m) + i) r) ≡ sum_to m (λ i. sample p c (2 * x * m + i) r) + sum_to m (λ i. sample p c ((2 * x + 1) * m + i) r)
row_halves p c m x r =
    sum_to-add m m (λ i. sample p c (x * (m + m) + i) r)
    ∙ ap (λ n. n + sum_to m (λ i. sample p c (x * (m + m) + (m + i)) r))
    (sum_to-same m (λ i. sample p c (x * (m + m) + i) r) (λ i. sample p c (2 * x * m + i) r) (λ i k. let e : x * (m + m) + i ≡ 2 * x * m + i = omega arith in ap (λ n. sample p c n r) e))
    ∙ ap (λ n. sum_to m (λ i. sample p c (2 * x * m + i) r) + n)
    (sum_to-same m (λ i. sample p c (x * (m + m) + (m + i)) r) (λ i. sample p c ((2 * x + 1) * m + i) r) (λ i k. let e : x * (m + m) + (m + i) ≡ (2 * x + 1) * m + i = omega arith in ap (λ n. sample p c n r) e))

rows_halves : (p : Image) (c m x a : ℕ) → sum_to m (λ j. sum_to (m + m) (λ i. sample p c (x * (m + m) + i) (a + j))) ≡
    sum_to m (λ j. sum_to m (λ i. sample p c (2 * x * m + i) (a + j))) + sum_to m (λ j. sum_to m (λ i. sample p c ((2 * x + 1) * m + i) (a + j)))
rows_halves p c m x a =
    sum_to-same m _ (λ j. sum_to m (λ i. sample p c (2 * x * m + i) (a + j)) + sum_to m (λ i. sample p c ((2 * x + 1) * m + i) (a + j))) (λ j k. row_halves p c m x (a + j))
    ∙ sum_to-plus m (λ j. sum_to m (λ i. sample p c (2 * x * m + i) (a + j))) (λ j. sum_to m (λ i. sample p c ((2 * x + 1) * m + i) (a + j)))

pub square_quarters : (p : Image) (c m x y : ℕ) → square_sum p c (m + m) x y ≡
    (square_sum p c m (2 * x) (2 * y) + square_sum p c m (2 * x + 1) (2 * y)) + (square_sum p c m (2 * x) (2 * y + 1) + square_sum p c m (2 * x + 1) (2 * y + 1))
unfolding square_sum
square_quarters p c m x y =
    let row : ℕ → ℕ = λ r. sum_to (m + m) (λ i. sample p c (x * (m + m) + i) r) in
    sum_to-add m m (λ j. row (y * (m + m) + j))
    ∙ ap (λ n. n + sum_to m (λ j. row (y * (m + m) + (m + j))))
    (sum_to-same m (λ j. row (y * (m + m) + j)) (λ j. row (2 * y * m + j)) (λ j k. let e : y * (m + m) + j ≡ 2 * y * m + j = omega arith in ap row e) ∙ rows_halves p c m x (2 * y * m))
    ∙ ap (λ n. (sum_to m (λ j. sum_to m (λ i. sample p c (2 * x * m + i) (2 * y * m + j))) + sum_to m (λ j. sum_to m (λ i. sample p c ((2 * x + 1) * m + i) (2 * y * m + j)))) + n)
    (sum_to-same m (λ j. row (y * (m + m) + (m + j))) (λ j. row ((2 * y + 1) * m + j)) (λ j k. let e : y * (m + m) + (m + j) ≡ (2 * y + 1) * m + j = omega arith in ap row e) ∙ rows_halves p c m x ((2 * y + 1) * m))
