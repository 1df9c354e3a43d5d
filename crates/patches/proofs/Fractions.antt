-- What the code's chains of exact steps give, where nothing wraps.
use Rattle.std.proofs.Common.{◌≡◌, ◌∙◌, ap, refl, ℕ, ◌+◌, ◌*◌, ◌^◌, ◌≤◌, ◌<◌, ℤ, pos, ◌-ℤ◌, ◌+ℤ◌, ◌*ℤ◌, unsigned_abs, FitsSigned, to_z, of_z, arith}
use Rattle.std.specs.Int.{w64, w128}
use Rattle.std.proofs.lemmas.Int.{ints, to_z-of_z, to_z_pos, fits_signed_from_abs}
use Rattle.fixed_math.specs.Blossom.{mix}
use lib.Signed.{mag}
use Rattle.fixed_math.proofs.Fits.{abs_add, term_abs, term_value, read_back}

pub same_128 : (z : ℤ) → unsigned_abs z ≤ 2 ^ 60 → to_z w128 (of_z w128 z) ≡ z
same_128 z h = to_z-of_z w128 z (fits_signed_from_abs w128 z (omega arith))

pub same_64 : (z : ℤ) → unsigned_abs z ≤ 2 ^ 60 → to_z w64 (of_z w64 z) ≡ z
same_64 z h = to_z-of_z w64 z (fits_signed_from_abs w64 z (omega arith))

-- the steps of a mix fit
pub term_fits : (p : ℕ) (a : ℤ) → p ≤ 4096 → unsigned_abs a ≤ 2 ^ 110 → FitsSigned w128 (to_z w128 p *ℤ to_z w128 (of_z w128 a))
term_fits p a h k =
    let e : to_z w128 p ≡ pos p = to_z_pos w128 p (omega arith) in
    let f : to_z w128 (of_z w128 a) ≡ a = to_z-of_z w128 a (fits_signed_from_abs w128 a (omega arith)) in
    let b : unsigned_abs (pos p *ℤ a) ≤ 4096 * 2 ^ 110 = term_abs p 4096 a (2 ^ 110) h k in
    rw (e, f) (fits_signed_from_abs w128 (pos p *ℤ a) (omega arith))

pub mix_fits : (p s : ℕ) (a b : ℤ) → p ≤ 4096 → s ≤ 4096 → unsigned_abs a ≤ 2 ^ 110 → unsigned_abs b ≤ 2 ^ 110 →
    FitsSigned w128 (to_z w128 (of_z w128 (to_z w128 p *ℤ to_z w128 (of_z w128 a))) +ℤ to_z w128 (of_z w128 (to_z w128 s *ℤ to_z w128 (of_z w128 b))))
mix_fits p s a b hp hs ha hb =
    let x : unsigned_abs (pos p *ℤ a) ≤ 4096 * 2 ^ 110 = term_abs p 4096 a (2 ^ 110) hp ha in
    let y : unsigned_abs (pos s *ℤ b) ≤ 4096 * 2 ^ 110 = term_abs s 4096 b (2 ^ 110) hs hb in
    let z = abs_add (pos p *ℤ a) (pos s *ℤ b) in
    rw (term_value p a hp ha, term_value s b hs hb) (fits_signed_from_abs w128 (pos p *ℤ a +ℤ pos s *ℤ b) (omega (arith, z)))

-- a mix of two numbers of the code, read back
pub mixed : (s : ℕ) (a b a' b' z : ℤ) → mag a < 2 ^ 127 → mag b < 2 ^ 127 → z ≡ mix s (to_z w128 (of_z w128 a)) (to_z w128 (of_z w128 b)) → a ≡ a' → b ≡ b' → z ≡ mix s a' b'
mixed s a b a' b' z fa fb e f g = e ∙ rw (read_back a fa, read_back b fb, f, g) refl

-- how large it is
pub mixed_below : (a b z : ℤ) (r : ℕ) → mag a < 2 ^ 127 → mag b < 2 ^ 127 →
    ((n : ℕ) → unsigned_abs (to_z w128 (of_z w128 a)) ≤ n → unsigned_abs (to_z w128 (of_z w128 b)) ≤ n → unsigned_abs z ≤ 4096 * n) →
    unsigned_abs a ≤ r → unsigned_abs b ≤ r → unsigned_abs z ≤ 4096 * r
mixed_below a b z r fa fb told ha hb = told r (rw (read_back a fa) ha) (rw (read_back b fb) hb)

-- one step of Horner's rule
raised_abs : (s : ℕ) (a b : ℤ) → s ≤ 4096 → unsigned_abs (pos s *ℤ a +ℤ b) ≤ 4096 * unsigned_abs a + unsigned_abs b
raised_abs s a b h =
    let x = term_abs s 4096 a (unsigned_abs a) h (omega arith) in
    let z = abs_add (pos s *ℤ a) b in
    omega (arith, x, z)

pub same_wide : (z : ℤ) → unsigned_abs z ≤ 2 ^ 123 → to_z w128 (of_z w128 z) ≡ z
same_wide z h = to_z-of_z w128 z (fits_signed_from_abs w128 z (omega arith))

pub raised_fits : (s : ℕ) (a b : ℤ) → s ≤ 4096 → unsigned_abs a ≤ 2 ^ 110 → unsigned_abs b ≤ 2 ^ 110 →
    FitsSigned w128 (to_z w128 (of_z w128 (to_z w128 s *ℤ to_z w128 (of_z w128 a))) +ℤ to_z w128 (of_z w128 b))
raised_fits s a b h ha hb =
    let x = raised_abs s a b h in
    rw (term_value s a h ha, same_wide b (omega arith)) (fits_signed_from_abs w128 (pos s *ℤ a +ℤ b) (omega (arith, x)))

pub raised_value : (s : ℕ) (a b : ℤ) → s ≤ 4096 → unsigned_abs a ≤ 2 ^ 110 → unsigned_abs b ≤ 2 ^ 110 →
    to_z w128 (of_z w128 (to_z w128 (of_z w128 (to_z w128 s *ℤ to_z w128 (of_z w128 a))) +ℤ to_z w128 (of_z w128 b))) ≡ pos s *ℤ a +ℤ b
raised_value s a b h ha hb =
    let x = raised_abs s a b h in
    rw (term_value s a h ha, same_wide b (omega arith)) (same_wide (pos s *ℤ a +ℤ b) (omega (arith, x)))

pub raised_below : (s : ℕ) (a b : ℤ) → s ≤ 4096 → unsigned_abs a ≤ 2 ^ 110 → unsigned_abs b ≤ 2 ^ 110 →
    unsigned_abs (to_z w128 (of_z w128 (to_z w128 (of_z w128 (to_z w128 s *ℤ to_z w128 (of_z w128 a))) +ℤ to_z w128 (of_z w128 b)))) ≤ 4096 * unsigned_abs a + unsigned_abs b
raised_below s a b h ha hb = rw (raised_value s a b h ha hb) (raised_abs s a b h)

-- the same mix in 64 bits
short_term : (p : ℕ) (a : ℤ) → p ≤ 4096 → unsigned_abs a ≤ 2 ^ 46 → (to_z w64 p *ℤ to_z w64 (of_z w64 a) ≡ pos p *ℤ a) × (unsigned_abs (pos p *ℤ a) ≤ 4096 * 2 ^ 46)
short_term p a h k =
    let e : to_z w64 p ≡ pos p = to_z_pos w64 p (omega arith) in
    let f : to_z w64 (of_z w64 a) ≡ a = same_64 a (omega arith) in
    (rw (e, f) refl, term_abs p 4096 a (2 ^ 46) h k)

pub short_term_fits : (p : ℕ) (a : ℤ) → p ≤ 4096 → unsigned_abs a ≤ 2 ^ 46 → FitsSigned w64 (to_z w64 p *ℤ to_z w64 (of_z w64 a))
short_term_fits p a h k = let t = short_term p a h k in rw (t.0) (fits_signed_from_abs w64 (pos p *ℤ a) (omega (arith, t.1)))

short_term_value : (p : ℕ) (a : ℤ) → p ≤ 4096 → unsigned_abs a ≤ 2 ^ 46 → to_z w64 (of_z w64 (to_z w64 p *ℤ to_z w64 (of_z w64 a))) ≡ pos p *ℤ a
short_term_value p a h k = let t = short_term p a h k in rw (t.0) (same_64 (pos p *ℤ a) (omega (arith, t.1)))

pub short_mix_fits : (p s : ℕ) (a b : ℤ) → p ≤ 4096 → s ≤ 4096 → unsigned_abs a ≤ 2 ^ 46 → unsigned_abs b ≤ 2 ^ 46 →
    FitsSigned w64 (to_z w64 (of_z w64 (to_z w64 p *ℤ to_z w64 (of_z w64 a))) +ℤ to_z w64 (of_z w64 (to_z w64 s *ℤ to_z w64 (of_z w64 b))))
short_mix_fits p s a b hp hs ha hb =
    let x = (short_term p a hp ha).1 in
    let y = (short_term s b hs hb).1 in
    let z = abs_add (pos p *ℤ a) (pos s *ℤ b) in
    rw (short_term_value p a hp ha, short_term_value s b hs hb) (fits_signed_from_abs w64 (pos p *ℤ a +ℤ pos s *ℤ b) (omega (arith, x, y, z)))

pub short_mix_value : (p s : ℕ) (a b : ℤ) → p ≤ 4096 → s ≤ 4096 → unsigned_abs a ≤ 2 ^ 46 → unsigned_abs b ≤ 2 ^ 46 →
    to_z w64 (of_z w64 (to_z w64 (of_z w64 (to_z w64 p *ℤ to_z w64 (of_z w64 a))) +ℤ to_z w64 (of_z w64 (to_z w64 s *ℤ to_z w64 (of_z w64 b))))) ≡ pos p *ℤ a +ℤ pos s *ℤ b
short_mix_value p s a b hp hs ha hb =
    let x = (short_term p a hp ha).1 in
    let y = (short_term s b hs hb).1 in
    let z = abs_add (pos p *ℤ a) (pos s *ℤ b) in
    rw (short_term_value p a hp ha, short_term_value s b hs hb) (same_64 (pos p *ℤ a +ℤ pos s *ℤ b) (omega (arith, x, y, z)))

-- a mix of two numbers of the code and its size, read back
pub short_step : (s : ℕ) (a b z : ℤ) (r : ℕ) → r ≤ 2 ^ 46 → unsigned_abs a ≤ r → unsigned_abs b ≤ r → z ≡ mix s (to_z w64 (of_z w64 a)) (to_z w64 (of_z w64 b)) →
    ((n : ℕ) → unsigned_abs (to_z w64 (of_z w64 a)) ≤ n → unsigned_abs (to_z w64 (of_z w64 b)) ≤ n → unsigned_abs z ≤ 4096 * n) → (z ≡ mix s a b) × (unsigned_abs z ≤ 4096 * r)
short_step s a b z r hr ha hb e told =
    let f = same_64 a (omega arith) in
    let g = same_64 b (omega arith) in
    (e ∙ rw (f, g) refl, told r (rw f ha) (rw g hb))

pub wide_step : (s : ℕ) (a b z : ℤ) (r : ℕ) → r ≤ 2 ^ 110 → unsigned_abs a ≤ r → unsigned_abs b ≤ r → z ≡ mix s (to_z w128 (of_z w128 a)) (to_z w128 (of_z w128 b)) →
    ((n : ℕ) → unsigned_abs (to_z w128 (of_z w128 a)) ≤ n → unsigned_abs (to_z w128 (of_z w128 b)) ≤ n → unsigned_abs z ≤ 4096 * n) → (z ≡ mix s a b) × (unsigned_abs z ≤ 4096 * r)
wide_step s a b z r hr ha hb e told =
    let f = same_wide a (omega arith) in
    let g = same_wide b (omega arith) in
    (e ∙ rw (f, g) refl, told r (rw f ha) (rw g hb))

-- the same of numbers cast from 64 bits
abbrev cast : ℤ → ℤ
cast z = to_z w128 (of_z w128 (to_z w64 (of_z w64 z)))

pub same_cast : (z : ℤ) → unsigned_abs z ≤ 2 ^ 60 → cast z ≡ z
same_cast z h = ap (λ y. to_z w128 (of_z w128 y)) (same_64 z h) ∙ same_wide z (omega arith)

pub cast_step : (s : ℕ) (a b z : ℤ) (r : ℕ) → r ≤ 2 ^ 60 → unsigned_abs a ≤ r → unsigned_abs b ≤ r → z ≡ mix s (cast a) (cast b) →
    ((n : ℕ) → unsigned_abs (cast a) ≤ n → unsigned_abs (cast b) ≤ n → unsigned_abs z ≤ 4096 * n) → (z ≡ mix s a b) × (unsigned_abs z ≤ 4096 * r)
cast_step s a b z r hr ha hb e told =
    let f = same_cast a (omega arith) in
    let g = same_cast b (omega arith) in
    (e ∙ rw (f, g) refl, told r (rw f ha) (rw g hb))

pub short_fits : (z : ℤ) → unsigned_abs z ≤ 2 ^ 60 → mag (to_z w64 (of_z w64 z)) < 2 ^ 127
short_fits z h = rw (same_64 z h) (fits_signed_from_abs w128 z (omega arith)).sfits

pub short_below : (z : ℤ) (m r : ℕ) → m ≤ 2 ^ 60 → m ≤ r → unsigned_abs z ≤ m → unsigned_abs (to_z w64 (of_z w64 z)) ≤ r
short_below z m r h l k = rw (same_64 z (omega arith)) (omega arith)

pub wide_below : (z : ℤ) (m r : ℕ) → m ≤ 2 ^ 123 → m ≤ r → unsigned_abs z ≤ m → unsigned_abs (to_z w128 (of_z w128 z)) ≤ r
wide_below z m r h l k = rw (same_wide z (omega arith)) (omega arith)

-- a difference and a multiple of numbers of the code
pub minus_step : (a b z : ℤ) (r : ℕ) → r ≤ 2 ^ 100 → unsigned_abs a ≤ r → unsigned_abs b ≤ r → z ≡ to_z w128 (of_z w128 a) -ℤ to_z w128 (of_z w128 b) → (z ≡ a -ℤ b) × (unsigned_abs z ≤ 2 * r)
minus_step a b z r hr ha hb e =
    let f : z ≡ a -ℤ b = e ∙ rw (same_wide a (omega arith), same_wide b (omega arith)) refl in
    (f, omega (arith, ints, f))

pub cast_minus : (a b z : ℤ) (r : ℕ) → r ≤ 2 ^ 60 → unsigned_abs a ≤ r → unsigned_abs b ≤ r → z ≡ cast a -ℤ cast b → (z ≡ a -ℤ b) × (unsigned_abs z ≤ 2 * r)
cast_minus a b z r hr ha hb e =
    let f : z ≡ a -ℤ b = e ∙ rw (same_cast a (omega arith), same_cast b (omega arith)) refl in
    (f, omega (arith, ints, f))

pub cast_below : (z : ℤ) (m r : ℕ) → m ≤ 2 ^ 60 → m ≤ r → unsigned_abs z ≤ m → unsigned_abs (cast z) ≤ r
cast_below z m r h l k = rw (same_cast z (omega arith)) (omega arith)

pub scaled_step : (p : ℕ) (a z : ℤ) (r m : ℕ) → r ≤ 2 ^ 100 → unsigned_abs a ≤ r → p * r ≤ m → z ≡ pos p *ℤ to_z w128 (of_z w128 a) → (z ≡ pos p *ℤ a) × (unsigned_abs z ≤ m)
scaled_step p a z r m hr ha hm e =
    let f : z ≡ pos p *ℤ a = e ∙ rw (same_wide a (omega arith)) refl in
    let b : unsigned_abs (pos p *ℤ a) ≤ p * r = term_abs p p a r (omega arith) ha in
    (f, rw f (omega (arith, b)))

pub one_weight : (p s : ℕ) (x y : ℤ) → pos p *ℤ (pos 1 *ℤ x +ℤ pos 0) +ℤ (pos s *ℤ (pos 1 *ℤ y +ℤ pos 0) +ℤ pos 0) ≡ pos p *ℤ x +ℤ pos s *ℤ y
one_weight p s x y = let e : pos 1 *ℤ x +ℤ pos 0 ≡ x = omega (arith, ints) in let f : pos 1 *ℤ y +ℤ pos 0 ≡ y = omega (arith, ints) in rw (e, f) (omega (arith, ints))

pub one_column : (p s : ℕ) (x y : ℤ) → pos 1 *ℤ (pos p *ℤ x +ℤ (pos s *ℤ y +ℤ pos 0)) +ℤ pos 0 ≡ pos p *ℤ x +ℤ pos s *ℤ y
one_column p s x y = omega (arith, ints)
