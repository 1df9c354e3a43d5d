-- Products over sums of weights.
use Rattle.std.proofs.Common.{◌≡◌, ℕ, suc, ◌+◌, ◌*◌, ◌/◌, ◌<◌, ◌≤◌, ap, arith}
use Rattle.std.specs.Prelude.{ℤ, pos, negsuc, ◌+ℤ◌, ◌-ℤ◌, ◌*ℤ◌, ◌≤ℤ◌, ◌<ℤ◌}
use Rattle.std.proofs.lemmas.Int.{ints, by_lt_z}
use Rattle.std.proofs.Math.Nat.{mul-le-mul_left, div-mul-le_self}
use Rattle.std.proofs.lemmas.Nat.{le-div}
use borrow.Author.Differences.{up, down, product_is, sum_is_lem}
use Rattle.fixed_math.specs.Whole.{floor_by}

-- ---- products over sums
pub mul-add : (p a b : ℤ) → p *ℤ (a +ℤ b) ≡ p *ℤ a +ℤ p *ℤ b
mul-add p a b =
    let e = ap (λ n. up p * n) (sum_is_lem a b) in
    let f = ap (λ n. down p * n) (sum_is_lem a b) in
    omega (arith, ints, e, f)

pub mul-mul : (p q : ℕ) (a : ℤ) → pos p *ℤ (pos q *ℤ a) ≡ pos (p * q) *ℤ a
mul-mul p q a =
    let e = ap (λ n. p * n) (product_is (pos q) a).0 in
    let f = ap (λ n. p * n) (product_is (pos q) a).1 in
    omega (arith, ints, e, f)

pub add-mul : (p q : ℕ) (a : ℤ) → pos (p + q) *ℤ a ≡ pos p *ℤ a +ℤ pos q *ℤ a
add-mul p q a = omega (arith, ints)

pub mul_mono : (p : ℕ) (a b : ℤ) → a ≤ℤ b → (pos p *ℤ a) ≤ℤ (pos p *ℤ b)
mul_mono p a b h =
    let k : up a + down b ≤ up b + down a = omega (arith, ints) in
    let e = mul-le-mul_left p k in
    omega (arith, ints, e)

-- ---- the floor
pub floor_down : (z : ℤ) (d : ℕ) → 0 < d → (pos d *ℤ floor_by z d) ≤ℤ z
floor_down (pos n) d h = omega (arith, ints)
floor_down (negsuc n) d h = omega (arith, ints)

pub floor_up : (z : ℤ) (d : ℕ) → 0 < d → z <ℤ (pos d *ℤ floor_by z d +ℤ pos d)
floor_up (pos n) d h = omega (arith, ints)
floor_up (negsuc n) d h = omega (arith, ints)

div_mono : (m n d : ℕ) → 0 < d → m ≤ n → m / d ≤ n / d
div_mono m n d p h = le-div (m / d) n d p (let e = div-mul-le_self m d in omega (arith, e))

pub floor_mono : (y z : ℤ) (d : ℕ) → 0 < d → y ≤ℤ z → floor_by y d ≤ℤ floor_by z d
floor_mono (pos m) (pos n) d p h = let e : m ≤ n = omega (arith, ints) in let f = div_mono m n d p e in omega (arith, ints, f)
floor_mono (pos m) (negsuc n) d p h = absurd (omega (arith, ints))
floor_mono (negsuc m) (pos n) d p h = omega (arith, ints)
floor_mono (negsuc m) (negsuc n) d p h = let e : n ≤ m = omega (arith, ints) in let f = div_mono n m d p e in omega (arith, ints, f)

pub floor_ge : (z m : ℤ) (d : ℕ) → 0 < d → (pos d *ℤ m) ≤ℤ z → m ≤ℤ floor_by z d
floor_ge z m d p h =
    by_lt_z (floor_by z d) m
    (λ lt. let e : (floor_by z d +ℤ pos 1) ≤ℤ m = omega (arith, ints) in
    let f = mul_mono d (floor_by z d +ℤ pos 1) m e in
    let g = mul-add (pos d) (floor_by z d) (pos 1) in
    let u = floor_up z d p in
    absurd (omega (arith, ints, f, g, u, h)))
    (λ le. le)

pub floor_lt : (z m : ℤ) (d : ℕ) → 0 < d → z <ℤ (pos d *ℤ m +ℤ pos d) → floor_by z d ≤ℤ m
floor_lt z m d p h =
    by_lt_z m (floor_by z d)
    (λ lt. let e : (m +ℤ pos 1) ≤ℤ floor_by z d = omega (arith, ints) in
    let f = mul_mono d (m +ℤ pos 1) (floor_by z d) e in
    let g = mul-add (pos d) m (pos 1) in
    let u = floor_down z d p in
    absurd (omega (arith, ints, f, g, u, h)))
    (λ le. le)

pub le_floor : (z m : ℤ) (d : ℕ) → 0 < d → m ≤ℤ floor_by z d → (pos d *ℤ m) ≤ℤ z
le_floor z m d p h =
    let f = mul_mono d m (floor_by z d) h in
    let u = floor_down z d p in
    omega (arith, ints, f, u)

pub floor_below : (z m : ℤ) (d : ℕ) → 0 < d → floor_by z d ≤ℤ m → z <ℤ (pos d *ℤ m +ℤ pos d)
floor_below z m d p h =
    let f = mul_mono d (floor_by z d) m h in
    let u = floor_up z d p in
    omega (arith, ints, f, u)

-- fractions with positive denominators, compared by their products across
pub floor_cross : (a c : ℤ) (b d : ℕ) → 0 < b → 0 < d → (pos d *ℤ a) ≤ℤ (pos b *ℤ c) → floor_by a b ≤ℤ floor_by c d
floor_cross a c b d hb hd h =
    let q = floor_by a b in
    floor_ge c q d hd
    (by_lt_z c (pos d *ℤ q)
    (λ lt.
    let e : (c +ℤ pos 1) ≤ℤ (pos d *ℤ q) = omega (arith, ints) in
    let f = mul_mono b (c +ℤ pos 1) (pos d *ℤ q) e in
    let g = mul-add (pos b) c (pos 1) in
    let u = mul_mono d (pos b *ℤ q) a (floor_down a b hb) in
    let s = mul-mul d b q in
    let t = mul-mul b d q in
    absurd (omega (arith, ints, f, g, u, s, t, h)))
    (λ le. le))

pub mul-sub : (p : ℕ) (a b : ℤ) → pos p *ℤ (a -ℤ b) ≡ pos p *ℤ a -ℤ pos p *ℤ b
mul-sub p a b =
    let e : up (a -ℤ b) + down a + up b ≡ down (a -ℤ b) + up a + down b = omega (arith, ints) in
    let f = ap (λ n. p * n) e in
    omega (arith, ints, f)

pub scale_mono : (m n : ℕ) (x : ℤ) → m ≤ n → pos 0 ≤ℤ x → (pos m *ℤ x) ≤ℤ (pos n *ℤ x)
scale_mono m n (pos k) h g = let e = mul-le-mul_left k h in omega (arith, ints, e)
scale_mono m n (negsuc k) h g = absurd (omega (arith, ints))

pub scale_mono_down : (m n : ℕ) (x : ℤ) → m ≤ n → x ≤ℤ pos 0 → (pos n *ℤ x) ≤ℤ (pos m *ℤ x)
scale_mono_down m n (pos k) h g = let e : k ≡ 0 = omega (arith, ints) in rw e (omega (arith, ints))
scale_mono_down m n (negsuc k) h g = let e = mul-le-mul_left (suc k) h in omega (arith, ints, e)

-- ---- weighted means of three numbers
pub mean_low : (u v w : ℕ) (x y z m : ℤ) → 0 < u + v + w → m ≤ℤ x → m ≤ℤ y → m ≤ℤ z → m ≤ℤ floor_by (pos u *ℤ x +ℤ pos v *ℤ y +ℤ pos w *ℤ z) (u + v + w)
mean_low u v w x y z m p a b c =
    let e = mul_mono u m x a in
    let f = mul_mono v m y b in
    let g = mul_mono w m z c in
    floor_ge (pos u *ℤ x +ℤ pos v *ℤ y +ℤ pos w *ℤ z) m (u + v + w) p (omega (arith, ints, e, f, g))

pub mean_high : (u v w : ℕ) (x y z m : ℤ) → 0 < u + v + w → x ≤ℤ m → y ≤ℤ m → z ≤ℤ m → floor_by (pos u *ℤ x +ℤ pos v *ℤ y +ℤ pos w *ℤ z) (u + v + w) ≤ℤ m
mean_high u v w x y z m p a b c =
    let e = mul_mono u x m a in
    let f = mul_mono v y m b in
    let g = mul_mono w z m c in
    floor_lt (pos u *ℤ x +ℤ pos v *ℤ y +ℤ pos w *ℤ z) m (u + v + w) p (omega (arith, ints, e, f, g))
