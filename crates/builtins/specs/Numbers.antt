-- The built-in functions of numbers (RenderMan Interface 3.2, Shading Language, section 15.1), each a formula over raws: a raw is the
-- number times 65536, each quotient is rounded down once, and each result is put into the range of raws.
use Rattle.std.specs.Prelude.{zero, suc, ℤ, pos, negsuc, neg_ℤ, ◌+ℤ◌, ◌*ℤ◌, int_lt, cond, unsigned_abs, ◌≡◌, refl}
use Rattle.fixed_math.specs.Whole.{floor_by}
use Rattle.fixed_math.specs.Root.{isqrt, isqrt_from}
use Rattle.fixed_math.specs.Fixed.{sat, add, sub, mul, div, sqrt}
use Rattle.fixed_math.specs.Sine.{sin, cos}
use Rattle.fixed_math.specs.Power.{log2}

-- the magnitude
abbrev pub abs : ℤ → ℤ
abs x = pos (unsigned_abs x)

-- 1, 0 or -1
abbrev pub sign : ℤ → ℤ
sign (pos zero) = pos 0
sign (pos (suc n)) = pos 65536
sign (negsuc n) = neg_ℤ (pos 65536)

-- so many ones
abbrev pub ones : ℤ → ℤ
ones n = sat (n *ℤ pos 65536)

-- the greatest whole number not above x
unfoldable pub floor : ℤ → ℤ
floor x = ones (floor_by x 65536)

-- the least whole number not below x
unfoldable pub ceil : ℤ → ℤ
ceil x = neg_ℤ (floor (neg_ℤ x))

-- the nearest whole number, of two the greater
unfoldable pub round : ℤ → ℤ
round x = ones (floor_by (x +ℤ pos 32768) 65536)

-- sine over cosine
unfoldable pub tan : ℤ → ℤ
tan x = div (sin x) (cos x)

-- 1 over the root
unfoldable pub inversesqrt : ℤ → ℤ
inversesqrt x = div (pos 65536) (sqrt x)

-- the logarithm to the base e, by that to the base two
unfoldable pub log : ℤ → ℤ
log x = mul (log2 x) (pos 45426)

-- a number of degrees in radians: 205887 / 11796480 is pi / 180
unfoldable pub radians : ℤ → ℤ
radians x = floor_by (x *ℤ pos 205887) 11796480

-- a number of radians in degrees
unfoldable pub degrees : ℤ → ℤ
degrees x = sat (floor_by (x *ℤ pos 11796480) 205887)

-- the lesser of two
abbrev pub min : ℤ → ℤ → ℤ
min a b = cond (int_lt b a) b a

-- the greater of two
abbrev pub max : ℤ → ℤ → ℤ
max a b = cond (int_lt a b) b a

-- a put into low to high; where low is above high, high
unfoldable pub clamp : ℤ → ℤ → ℤ → ℤ
clamp x low high = min (max x low) high

-- what is left of a where whole multiples of b are taken away
unfoldable pub modulo : ℤ → ℤ → ℤ
modulo a b = sub a (mul b (floor (div a b)))

-- from a, where t is 0, to b, where t is 1
unfoldable pub mix : ℤ → ℤ → ℤ → ℤ
mix a b t = add (mul a (sub (pos 65536) t)) (mul b t)

-- 0 below the edge a, else 1
abbrev pub step : ℤ → ℤ → ℤ
step a x = cond (int_lt x a) (pos 0) (pos 65536)

-- t t (3 - 2 t)
unfoldable pub hermite : ℤ → ℤ
hermite t = mul (mul t t) (sub (pos 196608) (mul (pos 131072) t))

-- from 0 below a to 1 from b on, smoothly
unfoldable pub smoothstep : ℤ → ℤ → ℤ → ℤ
smoothstep a b x = cond (int_lt x a) (pos 0) (cond (int_lt x b) (hermite (div (sub x a) (sub b a))) (pos 65536))

-- worked values
floor_of_negative : floor (neg_ℤ (pos 1)) ≡ neg_ℤ (pos 65536)
unfolding floor
floor_of_negative = refl

floor_at_end : floor (neg_ℤ (pos 2147483647)) ≡ neg_ℤ (pos 2147483647)
unfolding floor
floor_at_end = refl

ceil_of_negative : ceil (neg_ℤ (pos 65537)) ≡ neg_ℤ (pos 65536)
unfolding ceil floor
ceil_of_negative = refl

round_of_half : round (pos 32768) ≡ pos 65536
unfolding round
round_of_half = refl

round_of_negative_half : round (neg_ℤ (pos 32768)) ≡ pos 0
unfolding round
round_of_negative_half = refl

modulo_of_negative : modulo (neg_ℤ (pos 65536)) (pos 196608) ≡ pos 131072
unfolding modulo floor
modulo_of_negative = refl

modulo_by_zero : modulo (pos 65536) (pos 0) ≡ pos 65536
unfolding modulo floor
modulo_by_zero = refl

inversesqrt_of_four : inversesqrt (pos 262144) ≡ pos 32768
unfolding inversesqrt isqrt isqrt_from
inversesqrt_of_four = refl

smoothstep_in_middle : smoothstep (pos 0) (pos 131072) (pos 65536) ≡ pos 32768
unfolding smoothstep hermite
smoothstep_in_middle = refl

clamp_with_ends_exchanged : clamp (pos 5) (pos 9) (pos 3) ≡ pos 3
unfolding clamp
clamp_with_ends_exchanged = refl

radians_of_half_turn : radians (pos 11796480) ≡ pos 205887
unfolding radians
radians_of_half_turn = refl
