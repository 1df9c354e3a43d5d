-- Weighted sums that fit 128 bits.
use Rattle.std.proofs.Common.{◌≡◌, ℕ, ◌+◌, ◌-◌, ◌*◌, ◌^◌, ◌<◌, ◌≤◌, ap, arith, ◌∙◌, unsigned_abs, List, [], ◌∷◌, FitsSigned, to_z, of_z}
use Rattle.std.specs.Prelude.{ℤ, pos, neg_ℤ, ◌+ℤ◌, ◌*ℤ◌}
use Rattle.std.specs.Int.{w128}
use Rattle.std.proofs.lemmas.Int.{ints, to_z-of_z, to_z_pos, fits_signed_from_abs, unsigned_abs-mul}
use Rattle.std.proofs.lemmas.Nat.{mul-le}
use borrow.Author.Differences.{product_is, neg_is}
use lib.Signed.{mag}
use Rattle.fixed_math.specs.Fixed.{sat}
use Rattle.fixed_math.specs.Whole.{floor_by}
use Rattle.fixed_math.specs.Blossom.{denominator, blossom, AllFromTo, whole}
use Rattle.fixed_math.specs.Tensor.{blossom_net}
use Rattle.fixed_math.proofs.Sat.{sat_of_raw}
use Rattle.fixed_math.proofs.Weights.{floor_ge, floor_lt}

pub abs_add : (a b : ℤ) → unsigned_abs (a +ℤ b) ≤ unsigned_abs a + unsigned_abs b
abs_add a b = omega (arith, ints)

-- a small number of a weighted sum in 128 bits
pub term_abs : (p m : ℕ) (a : ℤ) (n : ℕ) → p ≤ m → unsigned_abs a ≤ n → unsigned_abs (pos p *ℤ a) ≤ m * n
term_abs p m a n h k = rw (unsigned_abs-mul (pos p) a) (mul-le p (unsigned_abs a) m n h k)

pub term_value : (p : ℕ) (a : ℤ) → p ≤ 4096 → unsigned_abs a ≤ 2 ^ 110 → to_z w128 (of_z w128 (to_z w128 p *ℤ to_z w128 (of_z w128 a))) ≡ pos p *ℤ a
term_value p a h k =
    let e : to_z w128 p ≡ pos p = to_z_pos w128 p (omega arith) in
    let f : to_z w128 (of_z w128 a) ≡ a = to_z-of_z w128 a (fits_signed_from_abs w128 a (omega arith)) in
    let b : unsigned_abs (pos p *ℤ a) ≤ 2 ^ 122 = term_abs p 4096 a (2 ^ 110) h k in
    rw (e, f) (to_z-of_z w128 (pos p *ℤ a) (fits_signed_from_abs w128 (pos p *ℤ a) (omega arith)))

pub mix_value : (p s : ℕ) (a b : ℤ) → p ≤ 4096 → s ≤ 4096 → unsigned_abs a ≤ 2 ^ 110 → unsigned_abs b ≤ 2 ^ 110 →
    to_z w128 (of_z w128 (to_z w128 (of_z w128 (to_z w128 p *ℤ to_z w128 (of_z w128 a))) +ℤ to_z w128 (of_z w128 (to_z w128 s *ℤ to_z w128 (of_z w128 b))))) ≡ pos p *ℤ a +ℤ pos s *ℤ b
mix_value p s a b hp hs ha hb =
    let e = term_value p a hp ha in
    let f = term_value s b hs hb in
    let x : unsigned_abs (pos p *ℤ a) ≤ 2 ^ 122 = term_abs p 4096 a (2 ^ 110) hp ha in
    let y : unsigned_abs (pos s *ℤ b) ≤ 2 ^ 122 = term_abs s 4096 b (2 ^ 110) hs hb in
    rw (e, f) (to_z-of_z w128 _ (fits_signed_from_abs w128 (pos p *ℤ a +ℤ pos s *ℤ b) (let z = abs_add (pos p *ℤ a) (pos s *ℤ b) in omega (arith, z))))

pub mix_abs : (p s : ℕ) (a b : ℤ) (r : ℕ) → p + s ≡ 4096 → unsigned_abs a ≤ r → unsigned_abs b ≤ r → unsigned_abs (pos p *ℤ a +ℤ pos s *ℤ b) ≤ 4096 * r
mix_abs p s a b r e ha hb =
    let z = abs_add (pos p *ℤ a) (pos s *ℤ b) in
    let x = term_abs p p a r (omega arith) ha in
    let y = term_abs s s b r (omega arith) hb in
    let w : p * r + s * r ≡ 4096 * r = omega (arith, ap (λ n. n * r) e) in
    omega (arith, z, x, y, w)

pub sat_same : (z : ℤ) → unsigned_abs z ≤ 2147483647 → sat z ≡ z
sat_same z h = sat_of_raw z (omega (arith, ints)) (omega (arith, ints))

pub floor_abs : (z : ℤ) (d m : ℕ) → 0 < d → unsigned_abs z ≤ d * m → unsigned_abs (floor_by z d) ≤ m
floor_abs z d m p h =
    let e = product_is (pos d) (neg_ℤ (pos m)) in
    let u = ap (λ n. d * n) (neg_is (pos m)).0 in
    let v = ap (λ n. d * n) (neg_is (pos m)).1 in
    let f = floor_ge z (neg_ℤ (pos m)) d p (omega (arith, ints, e, u, v)) in
    let g = floor_lt z (pos m) d p (omega (arith, ints)) in
    omega (arith, ints, f, g)

-- a blossom of small numbers is small
pub blossom_abs : (ss : List ℕ) (c : ℕ → ℤ) (k r : ℕ) → AllFromTo 0 denominator ss → ((i : ℕ) → unsigned_abs (c i) ≤ r) → unsigned_abs (blossom ss c k) ≤ whole ss * r
unfolding blossom
blossom_abs [] c k r w h = let e = h k in omega arith
blossom_abs (s ∷ ss) c k r w h =
    let e = blossom_abs ss c k r w.2 h in
    let f = blossom_abs ss c (k + 1) r w.2 h in
    let low = w.1 in
    let g = mix_abs (denominator - s) s (blossom ss c k) (blossom ss c (k + 1)) (whole ss * r) (omega arith) e f in
    omega (arith, g)

pub blossom_net_abs : (us vs : List ℕ) (c : ℕ → ℕ → ℤ) (r : ℕ) → AllFromTo 0 denominator us → AllFromTo 0 denominator vs → ((x y : ℕ) → unsigned_abs (c x y) ≤ r) → unsigned_abs (blossom_net us vs c) ≤ whole vs * (whole us * r)
blossom_net_abs us vs c r wu wv h = blossom_abs vs (λ y. blossom us (λ x. c x y) 0) 0 (whole us * r) wv (λ y. blossom_abs us (λ x. c x y) 0 r wu (λ x. h x y))

pub read_back : (z : ℤ) → mag z < 2 ^ 127 → to_z w128 (of_z w128 z) ≡ z
read_back z h = to_z-of_z w128 z (record { sfits = h })

-- what the code's floor and its saturation give, where nothing saturates
pub floor_through : (z r e f : ℤ) (d : ℕ) → unsigned_abs (floor_by z d) ≤ 2147483647 → mag e < 2 ^ 127 → mag f < 2 ^ 127 →
    e ≡ z → f ≡ floor_by (to_z w128 (of_z w128 e)) d → r ≡ sat (to_z w128 (of_z w128 f)) → r ≡ floor_by z d
floor_through z r e f d b he hf p q s =
    let q' : f ≡ floor_by z d = q ∙ ap (λ x. floor_by x d) (read_back e he ∙ p) in
    s ∙ ap sat (read_back f hf ∙ q') ∙ sat_same (floor_by z d) b

pub scaled_size : (p : ℕ) (a : ℤ) → unsigned_abs (pos p *ℤ a) ≡ p * unsigned_abs a
scaled_size p a = unsigned_abs-mul (pos p) a

pub scaled_fits : (p : ℕ) (a : ℤ) → p < 2 ^ 127 → mag a < 2 ^ 127 → p * unsigned_abs a < 2 ^ 127 → FitsSigned w128 (to_z w128 p *ℤ to_z w128 (of_z w128 a))
scaled_fits p a h f g = rw (to_z_pos w128 p h, read_back a f) (fits_signed_from_abs w128 (pos p *ℤ a) (rw (scaled_size p a) g))

pub scaled_value : (p : ℕ) (a : ℤ) → p < 2 ^ 127 → mag a < 2 ^ 127 → p * unsigned_abs a < 2 ^ 127 → to_z w128 (of_z w128 (to_z w128 p *ℤ to_z w128 (of_z w128 a))) ≡ pos p *ℤ a
scaled_value p a h f g = rw (to_z_pos w128 p h, read_back a f) (to_z-of_z w128 (pos p *ℤ a) (fits_signed_from_abs w128 (pos p *ℤ a) (rw (scaled_size p a) g)))
