-- The number formulas on raws: the raw x stands for x / 65536. Whole numbers are exact, each division is rounded down once,
-- and one clamp keeps every result within the limit.
use Rattle.std.specs.Prelude.{zero, ℤ, pos, negsuc, neg_ℤ, ◌+ℤ◌, ◌*◌, ◌-ℤ◌, ◌*ℤ◌, ◌≤ℤ◌, ◌≡◌, refl}
use Rattle.fixed_math.specs.Root.{isqrt, isqrt_from}
use Rattle.fixed_math.specs.Whole.{floor_div, clamp}

-- x is a raw: its magnitude is at most 2147483647
abbrev pub IsRaw : ℤ → Type 0
IsRaw x = (neg_ℤ (pos 2147483647) ≤ℤ x) × (x ≤ℤ pos 2147483647)

-- x put into the range of raws
abbrev pub sat : ℤ → ℤ
sat x = clamp (neg_ℤ (pos 2147483647)) (pos 2147483647) x

-- the sum, put into range
abbrev pub add : ℤ → ℤ → ℤ
add a b = sat (a +ℤ b)

-- the difference, put into range
abbrev pub sub : ℤ → ℤ → ℤ
sub a b = sat (a -ℤ b)

-- the product, rounded down once and put into range
abbrev pub mul : ℤ → ℤ → ℤ
mul a b = sat (floor_div (a *ℤ b) (pos 65536))

-- 0 where b is 0
abbrev pub div : ℤ → ℤ → ℤ
div a (pos zero) = pos 0
div a b = sat (floor_div (a *ℤ pos 65536) b)

-- the root of a / 65536, and 0 where a is not above 0
abbrev pub sqrt : ℤ → ℤ
sqrt (pos a) = pos (isqrt (a * 65536))
sqrt (negsuc a) = pos 0

-- worked values
mul_of_small : mul (neg_ℤ (pos 1)) (pos 1) ≡ neg_ℤ (pos 1)
mul_of_small = refl

div_by_zero : div (pos 65536) (pos 0) ≡ pos 0
div_by_zero = refl

div_by_negative : div (pos 1) (neg_ℤ (pos 3)) ≡ neg_ℤ (pos 21846)
div_by_negative = refl

add_at_limit : add (pos 2147483647) (pos 1) ≡ pos 2147483647
add_at_limit = refl

mul_past_limit : mul (neg_ℤ (pos 2147483647)) (pos 65537) ≡ neg_ℤ (pos 2147483647)
mul_past_limit = refl

sqrt_of_two : sqrt (pos 131072) ≡ pos 92681
unfolding isqrt isqrt_from
sqrt_of_two = refl
