-- Laws of logarithms and powers of two.
use Rattle.std.proofs.Common.{◌≡◌, refl, ap, sym, ◌∙◌, ℕ, zero, suc, ◌+◌, ◌-◌, ◌*◌, ◌/◌, ◌%◌, ◌^◌, ◌≤◌, ◌<◌, Bool, true, false, cond, arith, nat_le, nat_lt}
use borrow.Author.Tests.{leb-true, leb-false, lt-ltb, le-ltb}
use Rattle.std.proofs.Math.Pow.{pow_mono, pow-add, pow_pos}
use Rattle.std.proofs.Math.Nat.{mod-eq_of_lt, mul-lt-mul_of_pos_right}
use Rattle.fixed_math.specs.Whole.{first_passing}
use Rattle.std.proofs.Common.{ℤ, pos, negsuc, ◌≤ℤ◌, ◌<ℤ◌}
use Rattle.std.proofs.lemmas.Int.{ints}
use Rattle.std.specs.Int.RustNames.{unsigned_abs}
use Rattle.fixed_math.specs.Power.{log_bits, floor_log2, log2_of, log2}

pub first_passing_is : (n : ℕ) (p : ℕ → Bool) (k : ℕ) → k < n → p k ≡ true → ((j : ℕ) → j < k → p j ≡ false) → first_passing n p ≡ k
unfolding first_passing
first_passing_is zero p k h holds below = absurd (omega arith)
first_passing_is (suc n) p zero h holds below = ap (λ (t : Bool). cond t 0 (suc (first_passing n (λ j. p (suc j))))) holds
first_passing_is (suc n) p (suc k) h holds below =
    ap (λ (t : Bool). cond t 0 (suc (first_passing n (λ j. p (suc j))))) (below 0 (omega arith))
    ∙ ap suc (first_passing_is n (λ j. p (suc j)) k (omega arith) holds (λ j lt. below (suc j) (omega arith)))

pub floor_log2_is : (x r : ℕ) → r < 128 → 2 ^ r ≤ x → x < 2 * 2 ^ r → r ≡ floor_log2 x
unfolding floor_log2
floor_log2_is x r h low high =
    let twice : 2 ^ suc r ≡ 2 * 2 ^ r = omega arith in
    sym (first_passing_is 128 (λ k. nat_lt x (2 ^ suc k)) r h (lt-ltb x (2 ^ suc r) (omega arith))
    (λ j lt. le-ltb x (2 ^ suc j) (let up : 2 ^ suc j ≤ 2 ^ r = pow_mono (omega arith) in omega arith)))

-- one bit more
pub log_step : (k m : ℕ) → 0 < k → log_bits k m ≡ cond (nat_le 2147483648 (m * m / 1073741824)) (2 ^ (k - 1)) 0 + log_bits (k - 1) (cond (nat_le 2147483648 (m * m / 1073741824)) (m * m / 1073741824 / 2) (m * m / 1073741824))
unfolding log_bits
log_step zero m h = absurd (omega arith)
log_step (suc k) m h = let e : suc k - 1 ≡ k = omega arith in rw e

pub doubled : (k : ℕ) → 0 < k → 2 ^ k ≡ 2 ^ (k - 1) + 2 ^ (k - 1)
doubled zero h = absurd (omega arith)
doubled (suc k) h = let e : suc k - 1 ≡ k = omega arith in rw e (omega arith)

pub log_none : (m : ℕ) → 0 ≡ log_bits 0 m
unfolding log_bits
log_none m = refl

pub log_small : (x r : ℕ) → 2 ^ r ≤ x → x < 2147483648 → r ≤ 30
log_small x r low high =
    elim (nat_le r 30) as (λ t. nat_le r 30 ≡ t → r ≤ 30) [
      | true ↦ λ e. leb-true r 30 e
      | false ↦ λ e. let more : 31 ≤ r = leb-false r 30 e in let up : 2 ^ 31 ≤ 2 ^ r = pow_mono more in absurd (omega arith)
    ] refl

pub mantissa_small : (x r : ℕ) → r ≤ 30 → x < 2 * 2 ^ r → x * 2 ^ (30 - r) < 2147483648
mantissa_small x r small high =
    let whole : r + (30 - r) ≡ 30 = omega arith in
    let parts : 2 ^ r * 2 ^ (30 - r) ≡ 1073741824 = sym (pow-add 2 r (30 - r)) ∙ ap (λ (n : ℕ). 2 ^ n) whole in
    let some : 0 < 2 ^ (30 - r) = pow_pos (30 - r) in
    let up : x * 2 ^ (30 - r) < 2 * 2 ^ r * 2 ^ (30 - r) = mul-lt-mul_of_pos_right high some in
    omega (arith, parts)

pub mantissa_is : (x r : ℕ) → r ≤ 30 → x < 2 * 2 ^ r → x * 2 ^ (30 - r) % 18446744073709551616 ≡ x * 2 ^ (30 - r)
mantissa_is x r small high = mod-eq_of_lt (omega (arith, mantissa_small x r small high))

-- the logarithm by the sign of the raw value
pub log2_above : (z : ℤ) → pos 0 <ℤ z → log2_of (unsigned_abs z) ≡ log2 z
log2_above (pos zero) h = absurd (omega (arith, ints))
log2_above (pos (suc n)) h = refl
log2_above (negsuc n) h = absurd (omega (arith, ints))

pub log2_none : (z : ℤ) → z ≤ℤ pos 0 → pos 0 ≡ log2 z
log2_none (pos zero) h = refl
log2_none (pos (suc n)) h = absurd (omega (arith, ints))
log2_none (negsuc n) h = refl
