-- Bounds of decimals.
use Rattle.std.proofs.Common.{◌≡◌, refl, ap, Some, None, ◌/◌, ◌%◌, ℕ, suc, ℤ, pos, negsuc, ◌*◌, ◌^◌, ◌≤◌, ◌<◌, ◌≤ℤ◌, ◌<ℤ◌, arith, lit≤}
use Rattle.std.proofs.lemmas.Int.{ints}
use Rattle.std.specs.Int.RustNames.{unsigned_abs}
use Rattle.std.proofs.Math.Nat.{mul-le-mul, pow-le-pow_right, div-eq_of_lt, mod-eq_of_lt, one-le-pow}
use Rattle.std.proofs.lemmas.Bool.Decides.{nat_tests}
use Rattle.fixed_math.specs.Decimal.{raw_magnitude, nearest, whole_magnitude, quotient, limited}

pub tens_small : (k n : ℕ) → k ≤ n → 10 ^ k ≤ 10 ^ n
tens_small k n h = pow-le-pow_right (lit≤ tt) h

pub tens_some : (k : ℕ) → 1 ≤ 10 ^ k
tens_some k = one-le-pow k 10 (lit≤ tt)

-- ---- the cases of a raw_magnitude

pub none_digits : (d : ℕ) (e : ℤ) → d ≡ 0 → raw_magnitude d e ≡ 0
unfolding raw_magnitude
none_digits d (pos k) z = rw z (omega arith)
none_digits d (negsuc k) z = let some = tens_some (suc k) in div-eq_of_lt (omega arith)

pub large_exponent : (d : ℕ) (e : ℤ) → 0 < d → pos 5 ≤ℤ e → 2147483647 ≤ raw_magnitude d e
unfolding raw_magnitude
large_exponent d (pos k) some h =
    let tens = tens_small 5 k (omega (arith, ints)) in
    let base : 65536 ≤ d * 65536 = omega arith in
    let up : 65536 * 10 ^ 5 ≤ d * 65536 * 10 ^ k = mul-le-mul base tens in
    omega arith
large_exponent d (negsuc k) some h = absurd (omega (arith, ints))

pub whole_is : (d : ℕ) (e : ℤ) → pos 0 ≤ℤ e → raw_magnitude d e ≡ d * 65536 * 10 ^ unsigned_abs e
unfolding raw_magnitude
whole_is d (pos k) h = refl
whole_is d (negsuc k) h = absurd (omega (arith, ints))

pub small_exponent : (d : ℕ) (e : ℤ) → d < 18446744073709551616 → e <ℤ negsuc 23 → raw_magnitude d e ≡ 0
unfolding raw_magnitude
small_exponent d (pos k) small h = absurd (omega (arith, ints))
small_exponent d (negsuc k) small h =
    let more : 25 ≤ suc k = omega (arith, ints) in
    let tens = tens_small 25 (suc k) more in
    div-eq_of_lt (omega arith)

pub fraction_is : (d : ℕ) (e : ℤ) → e <ℤ pos 0 → raw_magnitude d e ≡ nearest (d * 65536) (10 ^ unsigned_abs e)
unfolding raw_magnitude
fraction_is d (pos k) h = absurd (omega (arith, ints))
fraction_is d (negsuc k) h = refl

-- ---- the cases of a whole magnitude

pub quotient_of_zero : (p : ℕ) → 1 ≤ p → quotient 0 p ≡ Some 0
quotient_of_zero p some = let e : 0 / p ≡ 0 = div-eq_of_lt (omega arith) in let r : 0 % p ≡ 0 = mod-eq_of_lt (omega arith) in rw (r, e) refl

pub quotient_of_less : (d p : ℕ) → 0 < d → d < p → quotient d p ≡ None
quotient_of_less d p some less = let r : d % p ≡ d = mod-eq_of_lt less in rw r (grind (arith, nat_tests))

pub limited_past : (m : ℕ) → 2147483647 < m → limited (Some m) ≡ None
limited_past m h = grind (arith, nat_tests)

pub none_whole : (d : ℕ) (e : ℤ) → d ≡ 0 → whole_magnitude d e ≡ Some 0
unfolding whole_magnitude
none_whole d (pos k) z = rw z (ap (λ m. Some m) (omega arith))
none_whole d (negsuc k) z = rw z (quotient_of_zero (10 ^ suc k) (tens_some (suc k)))

pub great_whole : (d : ℕ) (e : ℤ) → 0 < d → pos 10 ≤ℤ e → limited (whole_magnitude d e) ≡ None
unfolding whole_magnitude
great_whole d (pos k) some h =
    let tens = tens_small 10 k (omega (arith, ints)) in
    let base : 1 ≤ d = omega arith in
    let up : 1 * 10 ^ 10 ≤ d * 10 ^ k = mul-le-mul base tens in
    limited_past (d * 10 ^ k) (omega arith)
great_whole d (negsuc k) some h = absurd (omega (arith, ints))

pub multiple_is : (d : ℕ) (e : ℤ) → pos 0 ≤ℤ e → whole_magnitude d e ≡ Some (d * 10 ^ unsigned_abs e)
unfolding whole_magnitude
multiple_is d (pos k) h = refl
multiple_is d (negsuc k) h = absurd (omega (arith, ints))

pub small_whole : (d : ℕ) (e : ℤ) → 0 < d → d < 18446744073709551616 → e <ℤ negsuc 18 → whole_magnitude d e ≡ None
unfolding whole_magnitude
small_whole d (pos k) some small h = absurd (omega (arith, ints))
small_whole d (negsuc k) some small h =
    let more : 20 ≤ suc k = omega (arith, ints) in
    let tens = tens_small 20 (suc k) more in
    quotient_of_less d (10 ^ suc k) some (omega arith)

pub quotient_is : (d : ℕ) (e : ℤ) → e <ℤ pos 0 → whole_magnitude d e ≡ quotient d (10 ^ unsigned_abs e)
unfolding whole_magnitude
quotient_is d (pos k) h = absurd (omega (arith, ints))
quotient_is d (negsuc k) h = refl
