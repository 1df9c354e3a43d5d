-- Products of places fit 64 bits.
use Rattle.std.proofs.Common.{◌≡◌, ◌^◌, ◌≤◌, ◌<◌, arith, refl, subst, true, false, ◌∙◌, unsigned_abs, to_z, of_z, FitsSigned}
use Rattle.std.specs.Prelude.{ℤ, ◌<ℤ◌, ◌≤ℤ◌, ◌-ℤ◌, ◌*ℤ◌}
use Rattle.std.specs.Int.{w64}
use lib.Signed.{mag, le_z, lt_z}
use Rattle.std.proofs.lemmas.Int.{ints, to_z-of_z, fits_signed_from_abs, unsigned_abs-mul}
use Rattle.std.proofs.lemmas.Nat.{mul-le}

pub times_bound : (a b : ℤ) → unsigned_abs a ≤ 536870912 → unsigned_abs b ≤ 536870912 → unsigned_abs (a *ℤ b) ≤ 2 ^ 58
times_bound a b h k = rw (unsigned_abs-mul a b) (mul-le (unsigned_abs a) (unsigned_abs b) 536870912 536870912 h k)

pub times_value : (a b : ℤ) → unsigned_abs a ≤ 536870912 → unsigned_abs b ≤ 536870912 → to_z w64 (of_z w64 (to_z w64 (of_z w64 a) *ℤ to_z w64 (of_z w64 b))) ≡ a *ℤ b
times_value a b h k =
    let e : to_z w64 (of_z w64 a) ≡ a = to_z-of_z w64 a (fits_signed_from_abs w64 a (omega arith)) in
    let f : to_z w64 (of_z w64 b) ≡ b = to_z-of_z w64 b (fits_signed_from_abs w64 b (omega arith)) in
    let x = times_bound a b h k in
    rw (e, f) (to_z-of_z w64 (a *ℤ b) (fits_signed_from_abs w64 (a *ℤ b) (omega arith)))

-- what the code reads of two small products and their difference
pub less_value : (p q x y : ℤ) → unsigned_abs p ≤ 2 ^ 58 → unsigned_abs q ≤ 2 ^ 58 → p ≡ x → q ≡ y → to_z w64 (of_z w64 (to_z w64 (of_z w64 p) -ℤ to_z w64 (of_z w64 q))) ≡ x -ℤ y
less_value p q x y h k e f = rw (← e, ← f) (omega (arith, ints))

pub less_fits : (p q : ℤ) → unsigned_abs p ≤ 2 ^ 58 → unsigned_abs q ≤ 2 ^ 58 → FitsSigned w64 (to_z w64 (of_z w64 p) -ℤ to_z w64 (of_z w64 q))
less_fits p q h k = omega (arith, ints)

pub read64 : (z : ℤ) → unsigned_abs z ≤ 2 ^ 58 → to_z w64 (of_z w64 z) ≡ z
read64 z h = omega (arith, ints)

-- what a call's clause says of its arguments as they were passed
pub difference_read : (a b r : ℤ) → unsigned_abs a ≤ 268435456 → unsigned_abs b ≤ 268435456 → r ≡ to_z w64 (of_z w64 a) -ℤ to_z w64 (of_z w64 b) → r ≡ a -ℤ b
difference_read a b r h k e = e ∙ rw (read64 a (omega arith), read64 b (omega arith)) refl

pub product_read : (p q r x y : ℤ) → unsigned_abs p ≤ 536870912 → unsigned_abs q ≤ 536870912 → r ≡ to_z w64 (of_z w64 p) *ℤ to_z w64 (of_z w64 q) → p ≡ x → q ≡ y → r ≡ x *ℤ y
product_read p q r x y h k e f g = e ∙ rw (read64 p (omega arith), read64 q (omega arith), f, g) refl

pub read_whole : (z : ℤ) → mag z < 2 ^ 63 → to_z w64 (of_z w64 z) ≡ z
read_whole z h = to_z-of_z w64 z (record { sfits = h })

-- the same of a difference of what two calls answered
pub less_read : (p q r x y : ℤ) → unsigned_abs p ≤ 268435456 → unsigned_abs q ≤ 268435456 → r ≡ to_z w64 (of_z w64 p) -ℤ to_z w64 (of_z w64 q) → p ≡ x → q ≡ y → r ≡ x -ℤ y
less_read p q r x y h k e f g = difference_read p q r h k e ∙ rw (f, g) refl

pub less_bound : (p q : ℤ) → unsigned_abs p ≤ 2 ^ 58 → unsigned_abs q ≤ 2 ^ 58 → unsigned_abs (to_z w64 (of_z w64 (to_z w64 (of_z w64 p) -ℤ to_z w64 (of_z w64 q)))) ≤ 2 ^ 59
less_bound p q h k = rw (less_value p q p q h k refl refl) (omega (arith, ints))

-- what the code reads of a place that a call answered
pub place_read : (r x : ℤ) → r ≡ x → unsigned_abs x ≤ 2 ^ 28 → to_z w64 (of_z w64 r) ≡ x
place_read r x e h = rw e (read64 x (omega arith))

lt_from : (a b : ℤ) → lt_z a b ≡ true → a <ℤ b
lt_from a b e = omega (arith, ints, e)

-- what the code compares of two places
pub place_below : (p q x : ℤ) → lt_z (to_z w64 (of_z w64 p)) (to_z w64 (of_z w64 q)) ≡ true → p ≡ x → unsigned_abs p ≤ 268435456 → unsigned_abs q ≤ 268435456 → x <ℤ q
place_below p q x h e a b = let f : lt_z p q ≡ true = rw (read64 p (omega arith), read64 q (omega arith)) at h in subst (λ z. z <ℤ q) e (lt_from p q f)

pub place_above : (p q x : ℤ) → lt_z (to_z w64 (of_z w64 q)) (to_z w64 (of_z w64 p)) ≡ true → p ≡ x → unsigned_abs p ≤ 268435456 → unsigned_abs q ≤ 268435456 → q <ℤ x
place_above p q x h e a b = let f : lt_z q p ≡ true = rw (read64 p (omega arith), read64 q (omega arith)) at h in subst (λ z. q <ℤ z) e (lt_from q p f)

-- and of two depths
pub no_less : (p q x y : ℤ) → lt_z (to_z w64 (of_z w64 p)) (to_z w64 (of_z w64 q)) ≡ false → p ≡ x → q ≡ y → unsigned_abs p ≤ 2147483647 → unsigned_abs q ≤ 2147483647 → y ≤ℤ x
no_less p q x y h e f a b =
    let g : lt_z p q ≡ false = rw (read64 p (omega arith), read64 q (omega arith)) at h in
    subst (λ z. y ≤ℤ z) e (subst (λ z. z ≤ℤ p) f (not_lt p q g))
  where
    not_lt : (a b : ℤ) → lt_z a b ≡ false → b ≤ℤ a
    not_lt a b e = omega (arith, ints, e)

pub less_than : (p q x y : ℤ) → lt_z (to_z w64 (of_z w64 p)) (to_z w64 (of_z w64 q)) ≡ true → p ≡ x → q ≡ y → unsigned_abs p ≤ 2147483647 → unsigned_abs q ≤ 2147483647 → x <ℤ y
less_than p q x y h e f a b =
    let g : lt_z p q ≡ true = rw (read64 p (omega arith), read64 q (omega arith)) at h in
    subst (λ z. x <ℤ z) f (subst (λ z. z <ℤ q) e (lt_from p q g))

pub no_more : (p q x y : ℤ) → le_z (to_z w64 (of_z w64 p)) (to_z w64 (of_z w64 q)) ≡ true → p ≡ x → q ≡ y → unsigned_abs p ≤ 2147483647 → unsigned_abs q ≤ 2147483647 → x ≤ℤ y
no_more p q x y h e f a b =
    let g : le_z p q ≡ true = rw (read64 p (omega arith), read64 q (omega arith)) at h in
    subst (λ z. x ≤ℤ z) f (subst (λ z. z ≤ℤ q) e (le_from p q g))
  where
    le_from : (a b : ℤ) → le_z a b ≡ true → a ≤ℤ b
    le_from a b e = omega (arith, ints, e)
