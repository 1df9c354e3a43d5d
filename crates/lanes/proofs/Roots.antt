-- Roots of numbers of 64 bits.
use Rattle.std.proofs.Common.{◌≡◌, ℕ, zero, suc, ◌+◌, ◌*◌, ◌<◌, ◌≤◌, arith, ◌∙◌}
use Rattle.std.proofs.Common.{ap, refl, ℤ, pos, negsuc, ◌≤ℤ◌, ◌<ℤ◌}
use Rattle.std.specs.Int.RustNames.{unsigned_abs}
use Rattle.std.proofs.lemmas.Int.{ints}
use Rattle.fixed_math.specs.Root.{isqrt, isqrt_from}
use Rattle.fixed_math.specs.Fixed.{sqrt}
use Rattle.fixed_math.proofs.Root.{isqrt_lt}
use Rattle.std.proofs.Math.Nat.{mul-le-mul}

-- of a number of 64 bits it has at most 32
pub root_small : (n r : ℕ) → n < 18446744073709551616 → r ≡ isqrt n → r < 4294967296
root_small n r h e = omega (arith, e, isqrt_lt n 4294967296 (omega arith) (omega arith))

pub wide_root_small : (n r : ℕ) → n < 19807040628566084398385987584 → r ≡ isqrt n → r < 140737488355328
wide_root_small n r h e = omega (arith, e, isqrt_lt n 140737488355328 (omega arith) (omega arith))

none : isqrt 0 ≡ 0
unfolding isqrt isqrt_from
none = refl

pub sqrt_of_above : (z : ℤ) (u r : ℕ) → (z ≤ℤ pos 0 → u ≡ 0) × (pos 0 <ℤ z → u ≡ unsigned_abs z) → u < 2147483648 → r ≡ isqrt (u * 65536) → (pos r ≡ sqrt z) × (r < 16777216)
sqrt_of_above (pos zero) u r is small e =
    let u_is : u ≡ 0 = is.0 (omega (arith, ints)) in let r_is = rw u_is at e in (ap pos r_is, omega (arith, r_is, none))
sqrt_of_above (pos (suc n)) u r is small e =
    let u_is : u ≡ suc n = is.1 (omega (arith, ints)) in
    let r_is = rw u_is at e in
    (ap pos r_is, omega (arith, e, isqrt_lt (u * 65536) 16777216 (omega arith) (omega arith)))
sqrt_of_above (negsuc n) u r is small e =
    let u_is : u ≡ 0 = is.0 (omega (arith, ints)) in
    let r_is = rw u_is at e in
    let r_none : r ≡ 0 = r_is ∙ none in (ap pos r_none, omega arith)

-- the square of a number of 32 bits and twice the number are below 2 ^ 64
pub room_of_square : (r : ℕ) → r < 4294967296 → r * r + 2 * r < 18446744073709551616
room_of_square r h =
    let a : r ≤ 4294967295 = omega arith in
    let le = mul-le-mul a a in omega arith
