-- Tables of sums: what stands at a place, what lies outside, how large a sum is.
use Rattle.std.proofs.Common.{◌≡◌, ◌∙◌, ap, refl, ℕ, zero, suc, ◌+◌, ◌-◌, ◌*◌, ◌/◌, ◌%◌, ◌<◌, ◌≤◌, List, [], ◌∷◌, length, get_or, arith, Bool, true, false, ⊎_elim}
use Rattle.std.specs.Prelude.{nat_lt, ◌&&◌, cond, min}
use Rattle.std.proofs.Math.Nat.{lt-div-mul-add, div-mul-le_self, mul-le-mul, mul-le-mul_right}
use Rattle.std.proofs.lemmas.Nat.{div-mul-add, mod-mul-add}
use Rattle.std.proofs.lemmas.Bool.{cases_lt}
use Rattle.texture.proofs.Listed.{length-listed, get_listed}
use Rattle.texture.specs.Images.{Image, IsImage}
use Rattle.texture.specs.Pyramid.{sample, sum_to, square_sum, inside, side_at}
use Rattle.texture.specs.Tables.{cell, Table, AreSums}
use Rattle.texture.proofs.Halving.{sum_to-zero}

-- the places
pub place_of : (w h x y : ℕ) → x < w → y < h → (y * w + x) < w * h
place_of w h x y hx hy =
    let e : (y + 1) * w ≤ h * w = mul-le-mul_right w (omega arith) in
    omega (arith, e)

pub cell_at : (p : Image) (m w c x y : ℕ) → c < 3 → x < w → cell p m w ((y * w + x) * 3 + c) ≡ square_sum p c m x y
cell_at p m w c x y hc hx =
    let a : ((y * w + x) * 3 + c) % 3 ≡ c = mod-mul-add (y * w + x) 3 c hc in
    let b : ((y * w + x) * 3 + c) / 3 ≡ y * w + x = div-mul-add (y * w + x) 3 c hc in
    rw (a, b, mod-mul-add y w x hx, div-mul-add y w x hx) refl

pub table_at : (p : Image) (m : ℕ) (t : Table) (c x y : ℕ) → AreSums p m t → c < 3 → x < t.width → y < t.height → get_or t.cells ((y * t.width + x) * 3 + c) 0 ≡ square_sum p c m x y
table_at p m t c x y s hc hx hy =
    let k = place_of t.width t.height x y hx hy in
    ap (λ xs. get_or xs ((y * t.width + x) * 3 + c) 0) s.cells
    ∙ get_listed (3 * (t.width * t.height)) (cell p m t.width) ((y * t.width + x) * 3 + c) 0 (omega (arith, k))
    ∙ cell_at p m t.width c x y hc hx

-- outside
sample_right : (p : Image) (c x y : ℕ) → p.width ≤ x → sample p c x y ≡ 0
unfolding sample
sample_right p c x y h = grind arith

sample_below : (p : Image) (c x y : ℕ) → p.height ≤ y → sample p c x y ≡ 0
unfolding sample
sample_below p c x y h = grind arith

reach : (side m x : ℕ) → 0 < m → side_at side m ≤ x → side ≤ x * m
reach side m x hm h =
    let e = mul-le-mul_right m h in
    let q : side + (m - 1) < (side + (m - 1)) / m * m + m = lt-div-mul-add hm in
    omega (arith, e, q)

pub outside_right : (p : Image) (c m x y : ℕ) → 0 < m → side_at p.width m ≤ x → square_sum p c m x y ≡ 0
unfolding square_sum
outside_right p c m x y hm h =
    let r = reach p.width m x hm h in
    sum_to-zero m _ (λ j k. sum_to-zero m _ (λ i l. sample_right p c (x * m + i) (y * m + j) (omega (arith, r))))

pub outside_below : (p : Image) (c m x y : ℕ) → 0 < m → side_at p.height m ≤ y → square_sum p c m x y ≡ 0
unfolding square_sum
outside_below p c m x y hm h =
    let r = reach p.height m y hm h in
    sum_to-zero m _ (λ j k. sum_to-zero m _ (λ i l. sample_below p c (x * m + i) (y * m + j) (omega (arith, r))))

-- sizes
sum_to-most : (n b : ℕ) (f : ℕ → ℕ) → ((i : ℕ) → f i ≤ b) → sum_to n f ≤ n * b
unfolding sum_to
sum_to-most zero b f h = omega arith
sum_to-most (suc n) b f h = let e = sum_to-most n b f h in let d = h n in omega (arith, e, d)

sample-most : (p : Image) (c x y : ℕ) → IsImage p → sample p c x y ≤ 65535
unfolding sample
sample-most p c x y h =
    let e = h.each (3 * (p.width * y + x) + c) in
    let d = h.most in
    below_either (nat_lt x p.width && nat_lt y p.height) (get_or p.samples (3 * (p.width * y + x) + c) 0) (omega (arith, e, d))
  where
    below_either : (b : Bool) (n : ℕ) → n ≤ 65535 → cond b n 0 ≤ 65535
    below_either true n h = h
    below_either false n h = omega arith

pub square_sum-most : (p : Image) (c m x y : ℕ) → IsImage p → m ≤ 2048 → square_sum p c m x y ≤ 65535 * 4194304
unfolding square_sum
square_sum-most p c m x y h k =
    let e = sum_to-most m (m * 65535) _ (λ j. sum_to-most m 65535 _ (λ i. sample-most p c (x * m + i) (y * m + j) h)) in
    let d : m * (m * 65535) ≤ 2048 * (2048 * 65535) = mul-le-mul k (mul-le-mul_right 65535 k) in
    omega (arith, e, d)

pub index_in : (p : Image) (m : ℕ) (t : Table) (c x y : ℕ) → AreSums p m t → c < 3 → x < t.width → y < t.height → (y * t.width + x) * 3 + c < length t.cells
index_in p m t c x y s hc hx hy =
    let k = place_of t.width t.height x y hx hy in
    let e : length t.cells ≡ 3 * (t.width * t.height) = ap length s.cells ∙ length-listed (3 * (t.width * t.height)) (cell p m t.width) in
    omega (arith, k, e)

pub same_default : {A : Type 0} (xs : List A) (k : ℕ) (d e : A) → k < length xs → get_or xs k d ≡ get_or xs k e
same_default [] k d e h = absurd (omega arith)
same_default (x ∷ xs) zero d e h = refl
same_default (x ∷ xs) (suc k) d e h = same_default xs k d e (omega (arith, h))

-- a sum whose later terms are 0
sum_cut : (n k b : ℕ) (f : ℕ → ℕ) → ((i : ℕ) → f i ≤ b) → ((i : ℕ) → k ≤ i → f i ≡ 0) → sum_to n f ≤ min n k * b
unfolding sum_to
sum_cut zero k b f h z = omega arith
sum_cut (suc n) k b f h z =
    let e = sum_cut n k b f h z in
    ⊎_elim
    (λ (s : n < k). let d : min (suc n) k ≡ min n k + 1 = omega arith in let g = h n in rw d (omega (arith, e, g)))
    (λ (s : k ≤ n). let d : min (suc n) k ≡ min n k = omega arith in let g = z n s in rw d (omega (arith, e, g)))
    (cases_lt n k)

sample-below : (p : Image) (c x y : ℕ) → IsImage p → sample p c x y ≤ p.most
unfolding sample
sample-below p c x y h = below_either (nat_lt x p.width && nat_lt y p.height) (get_or p.samples (3 * (p.width * y + x) + c) 0) (h.each (3 * (p.width * y + x) + c))
  where
    below_either : (b : Bool) (n : ℕ) {m : ℕ} → n ≤ m → cond b n 0 ≤ m
    below_either true n h = h
    below_either false n h = omega arith

-- the sum over a square is at most that of its places in the image, each with the greatest value
pub square_sum-below : (p : Image) (c m x y : ℕ) → IsImage p → square_sum p c m x y ≤ p.most * (inside p.width m x * inside p.height m y)
unfolding square_sum
square_sum-below p c m x y h =
    let rows = sum_cut m (p.height - y * m) (inside p.width m x * p.most) (λ j. sum_to m (λ i. sample p c (x * m + i) (y * m + j)))
    (λ j. sum_cut m (p.width - x * m) p.most (λ i. sample p c (x * m + i) (y * m + j)) (λ i. sample-below p c (x * m + i) (y * m + j) h) (λ i k. sample_right p c (x * m + i) (y * m + j) (omega arith)))
    (λ j k. sum_to-zero m _ (λ i l. sample_below p c (x * m + i) (y * m + j) (omega arith))) in
    omega (arith, rows)

pub inside_some : (side m x : ℕ) → 0 < m → x < side_at side m → 0 < inside side m x
inside_some side m x hm h =
    let e : (x + 1) * m ≤ (side + (m - 1)) / m * m = mul-le-mul_right m (omega arith) in
    let q = div-mul-le_self (side + (m - 1)) m in
    omega (arith, e, q)
