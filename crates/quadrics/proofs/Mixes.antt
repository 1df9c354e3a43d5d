-- What mixes of the code's numbers give, where nothing wraps.
use Rattle.std.proofs.Common.{◌≡◌, ◌∙◌, refl, ℕ, ◌*◌, ◌^◌, ◌≤◌, ◌<◌, ℤ, pos, ◌+ℤ◌, ◌*ℤ◌, unsigned_abs, FitsSigned, to_z, of_z, arith}
use Rattle.std.specs.Int.{w64, w128}
use Rattle.std.proofs.lemmas.Int.{to_z-of_z, to_z_pos, fits_signed_from_abs}
use Rattle.fixed_math.specs.Blossom.{mix}
use lib.Signed.{mag}
use Rattle.fixed_math.proofs.Fits.{abs_add, term_abs, term_value, read_back}

pub same_128 : (z : ℤ) → unsigned_abs z ≤ 2 ^ 60 → to_z w128 (of_z w128 z) ≡ z
same_128 z h = to_z-of_z w128 z (fits_signed_from_abs w128 z (omega arith))

pub same_64 : (z : ℤ) → unsigned_abs z ≤ 2 ^ 60 → to_z w64 (of_z w64 z) ≡ z
same_64 z h = to_z-of_z w64 z (fits_signed_from_abs w64 z (omega arith))

-- the steps of a mix fit
pub term_fits : (p : ℕ) (a : ℤ) → p ≤ 4096 → unsigned_abs a ≤ 2 ^ 110 → FitsSigned w128 (to_z w128 p *ℤ to_z w128 (of_z w128 a))
term_fits p a h k =
    let e : to_z w128 p ≡ pos p = to_z_pos w128 p (omega arith) in
    let f : to_z w128 (of_z w128 a) ≡ a = to_z-of_z w128 a (fits_signed_from_abs w128 a (omega arith)) in
    let b : unsigned_abs (pos p *ℤ a) ≤ 4096 * 2 ^ 110 = term_abs p 4096 a (2 ^ 110) h k in
    rw (e, f) (fits_signed_from_abs w128 (pos p *ℤ a) (omega arith))

pub mix_fits : (p s : ℕ) (a b : ℤ) → p ≤ 4096 → s ≤ 4096 → unsigned_abs a ≤ 2 ^ 110 → unsigned_abs b ≤ 2 ^ 110 →
    FitsSigned w128 (to_z w128 (of_z w128 (to_z w128 p *ℤ to_z w128 (of_z w128 a))) +ℤ to_z w128 (of_z w128 (to_z w128 s *ℤ to_z w128 (of_z w128 b))))
mix_fits p s a b hp hs ha hb =
    let x : unsigned_abs (pos p *ℤ a) ≤ 4096 * 2 ^ 110 = term_abs p 4096 a (2 ^ 110) hp ha in
    let y : unsigned_abs (pos s *ℤ b) ≤ 4096 * 2 ^ 110 = term_abs s 4096 b (2 ^ 110) hs hb in
    let z = abs_add (pos p *ℤ a) (pos s *ℤ b) in
    rw (term_value p a hp ha, term_value s b hs hb) (fits_signed_from_abs w128 (pos p *ℤ a +ℤ pos s *ℤ b) (omega (arith, z)))

-- a mix of two numbers of the code, read back
pub mixed : (s : ℕ) (a b a' b' z : ℤ) → mag a < 2 ^ 127 → mag b < 2 ^ 127 → z ≡ mix s (to_z w128 (of_z w128 a)) (to_z w128 (of_z w128 b)) → a ≡ a' → b ≡ b' → z ≡ mix s a' b'
mixed s a b a' b' z fa fb e f g = e ∙ rw (read_back a fa, read_back b fb, f, g) refl

-- how large it is
pub mixed_below : (a b z : ℤ) (r : ℕ) → mag a < 2 ^ 127 → mag b < 2 ^ 127 →
    ((n : ℕ) → unsigned_abs (to_z w128 (of_z w128 a)) ≤ n → unsigned_abs (to_z w128 (of_z w128 b)) ≤ n → unsigned_abs z ≤ 4096 * n) →
    unsigned_abs a ≤ r → unsigned_abs b ≤ r → unsigned_abs z ≤ 4096 * r
mixed_below a b z r fa fb told ha hb = told r (rw (read_back a fa) ha) (rw (read_back b fb) hb)

-- a mix of numbers below 2 ^ 70 may be mixed again
pub mixed_once : (z : ℤ) → mag z < 2 ^ 127 → unsigned_abs z ≤ 4096 * 2 ^ 70 → unsigned_abs (to_z w128 (of_z w128 z)) ≤ 2 ^ 110
mixed_once z f h = rw (read_back z f) (omega arith)

pub mixed_twice_below : (z : ℤ) (r : ℕ) → mag z < 2 ^ 127 → unsigned_abs z ≤ 4096 * (4096 * r) → unsigned_abs (to_z w128 (of_z w128 z)) ≤ 2 ^ 24 * r
mixed_twice_below z r f h = rw (read_back z f) (omega arith)
