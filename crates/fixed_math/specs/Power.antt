-- Logarithms and powers of two, bit by bit.
use Rattle.std.specs.Prelude.{ℕ, zero, suc, ℤ, pos, negsuc, ◌+◌, ◌-◌, ◌*◌, ◌/◌, ◌%◌, ◌^◌, ◌+ℤ◌, ◌-ℤ◌, ◌*ℤ◌, nat_le, nat_lt, ◌==◌, int_lt, cond, unsigned_abs, ◌≡◌, refl}
use Rattle.std.specs.Int.{int_rem_euclid}
use Rattle.fixed_math.specs.Whole.{floor_by, first_passing}
use Rattle.fixed_math.specs.Root.{isqrt, isqrt_from}
use Rattle.fixed_math.specs.Fixed.{sat, mul}

-- the greatest k with 2 ^ k ≤ x, for x from 1 to 2 ^ 128 - 1
unfoldable pub floor_log2 : ℕ → ℕ
floor_log2 x = first_passing 128 (λ k. nat_lt x (2 ^ suc k))

-- the next k bits of the logarithm of m / 2 ^ 30, the first the highest
unfoldable pub log_bits : ℕ → ℕ → ℕ
log_bits zero m = 0
log_bits (suc k) m =
    let square = m * m / 2 ^ 30 in
    cond (nat_le (2 ^ 31) square) (2 ^ k) 0 + log_bits k (cond (nat_le (2 ^ 31) square) (square / 2) square)

unfoldable pub log2_of : ℕ → ℤ
log2_of x = (pos (floor_log2 x) -ℤ pos 16) *ℤ pos 65536 +ℤ pos (log_bits 16 (x * 2 ^ (30 - floor_log2 x)))

-- the logarithm to the base two, bit by bit; 0 of what isn't above 0
abbrev pub log2 : ℤ → ℤ
log2 (pos zero) = pos 0
log2 (pos (suc n)) = log2_of (suc n)
log2 (negsuc n) = pos 0

-- m times the roots of two that the lowest k bits of f name; r is the root before
unfoldable pub exp_bits : ℕ → ℕ → ℕ → ℕ → ℕ
exp_bits zero f m r = m
exp_bits (suc k) f m r =
    let s = isqrt (r * 2 ^ 30) in
    exp_bits k f (cond (f / 2 ^ k % 2 == 1) (m * s / 2 ^ 30) m) s

-- m times 2 ^ e, rounded down
abbrev pub with_exponent : ℕ → ℤ → ℤ
with_exponent m (pos e) = pos (m * 2 ^ e)
with_exponent m (negsuc e) = pos (m / 2 ^ suc e)

-- two to the power x, bit by bit
unfoldable pub exp2 : ℤ → ℤ
exp2 x = sat (with_exponent (exp_bits 16 (unsigned_abs (int_rem_euclid x (pos 65536))) (2 ^ 30) (2 ^ 31)) (floor_by x 65536 -ℤ pos 14))

-- x to the power y; 1 where y is 0, else 0 where x isn't above 0
unfoldable pub pow : ℤ → ℤ → ℤ
pow x (pos zero) = pos 65536
pow x y = cond (int_lt (pos 0) x) (exp2 (mul y (log2 x))) (pos 0)

-- the power of e, by the logarithm of e to the base two
abbrev pub exp : ℤ → ℤ
exp x = exp2 (mul x (pos 94548))

log2_of_two : log2 (pos 131072) ≡ pos 65536
unfolding log2_of floor_log2 log_bits first_passing
log2_of_two = refl

exp2_of_half : exp2 (pos 32768) ≡ pos 92681
unfolding exp2 exp_bits isqrt isqrt_from
exp2_of_half = refl

pow_of_two : pow (pos 131072) (pos 65536) ≡ pos 131072
unfolding pow exp2 exp_bits isqrt isqrt_from log2_of floor_log2 log_bits first_passing
pow_of_two = refl
