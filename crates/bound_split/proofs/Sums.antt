-- Sums and maxima with one more term.
use Rattle.std.proofs.Common.{◌≡◌, ℕ, zero, suc, ◌+◌, ◌-◌, ◌*◌, ◌/◌, ◌%◌, ◌<◌, ◌≤◌, max, ap, arith, refl, add-one, List}
use Rattle.std.proofs.Math.Nat.{mul-le-mul_left}
use Rattle.bound_split.specs.declared.lengths.Place.{Place}
use Rattle.bound_split.specs.Lengths.{sum_below, most_below, place_at, step_length, line_length}

-- one more term
pub sum_below-next : (n : ℕ) (f : ℕ → ℕ) → sum_below (n + 1) f ≡ sum_below n f + f n
unfolding sum_below
sum_below-next n f = rw add-one

pub most_below-next : (n : ℕ) (f : ℕ → ℕ) → most_below (n + 1) f ≡ max (most_below n f) (f n)
unfolding most_below
most_below-next n f = rw add-one

pub most_below-none : (f : ℕ → ℕ) → most_below 0 f ≡ 0
unfolding most_below
most_below-none f = refl

-- a loop that goes on with the greater of the most so far and the next term
pub most_step : (n : ℕ) (f : ℕ → ℕ) (most l r : ℕ) → most ≡ most_below n f → l ≡ f n → r ≡ max most l → r ≡ most_below (n + 1) f
most_step n f most l r so_far here next = rw (most_below-next n f, ← so_far, ← here) next

pub most_all : (n m : ℕ) (f : ℕ → ℕ) (most : ℕ) → most ≡ most_below n f → n ≤ m → m ≤ n → most ≡ most_below m f
most_all n m f most so_far low high =
    let e : m ≡ n = omega arith in
    rw e so_far

pub line_length-none : (ps : List Place) (s k : ℕ) → line_length ps s k 0 ≡ 0
unfolding line_length sum_below
line_length-none ps s k = refl

pub line_length-next : (ps : List Place) (s k n : ℕ) → line_length ps s k (n + 1) ≡ line_length ps s k n + step_length (place_at ps (s + k * n)) (place_at ps (s + k * n + k))
unfolding line_length
line_length-next ps s k n =
    let there : s + k * (n + 1) ≡ s + k * n + k = omega arith in
    rw (sum_below-next, there)

-- one more step fits where all do
pub next_inside : (k n m : ℕ) → n < m → k * n + k ≤ k * m
next_inside k n m h =
    let e : n + 1 ≤ m = omega arith in
    let p = mul-le-mul_left k e in
    omega (arith, p)

-- row y of the rows of w is inside
pub row_inside : (w n y : ℕ) → 1 ≤ w → y < n / w → w * y + w ≤ n
row_inside w n y some h =
    let all = next_inside w y (n / w) h in
    omega arith

-- whole rows are as many as their width goes into the length, and at least one
pub rows_whole : (w n : ℕ) → 1 ≤ w → 0 < n → n % w ≡ 0 → (w * (n / w) ≡ n) × (1 ≤ n / w)
rows_whole w n some h whole =
    let all : w * (n / w) ≡ n = omega arith in
    (all, positive w (n / w) (omega arith))
  where
    positive : (w q : ℕ) → 0 < w * q → 1 ≤ q
    positive w zero h = absurd (omega arith)
    positive w (suc q) h = omega arith

-- column x of the rows of w is inside
pub column_inside : (w n x : ℕ) → x < w → 0 < n → n % w ≡ 0 → x + w * (n / w - 1) < n
column_inside w n x h some whole =
    let r = rows_whole w n (omega arith) some whole in
    let all = r.0 in
    let one = r.1 in
    let e : n / w ≡ n / w - 1 + 1 = omega arith in
    let p : w * (n / w) ≡ w * (n / w - 1) + w = omega (arith, ap (λ q. w * q) e) in
    omega arith
