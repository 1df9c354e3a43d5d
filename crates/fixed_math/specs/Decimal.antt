-- The value of a decimal: its digits times ten to its exponent, with its sign.
use Rattle.std.specs.Prelude.{ℕ, suc, ℤ, pos, negsuc, neg_ℤ, ◌+◌, ◌*◌, ◌/◌, ◌%◌, ◌^◌, Bool, true, false, ◌==◌, nat_le, if◌then◌else◌, ◌≡◌, refl, Option, Some, None, option_map}
use Rattle.fixed_math.specs.Fixed.{sat}
use Rattle.fixed_math.specs.declared.decimal.Decimal.{Decimal}

-- a / b rounded to the nearest, halves up
abbrev pub nearest : ℕ → ℕ → ℕ
nearest a b = (2 * a + b) / (2 * b)

-- d * 10 ^ e times 65536, rounded to the nearest
unfoldable pub raw_magnitude : ℕ → ℤ → ℕ
raw_magnitude d (pos e) = d * 65536 * 10 ^ e
raw_magnitude d (negsuc e) = nearest (d * 65536) (10 ^ suc e)

-- a / b, where it is whole
abbrev pub quotient : ℕ → ℕ → Option ℕ
quotient a b = if a % b == 0 then Some (a / b) else None

-- d * 10 ^ e, where it is whole
unfoldable pub whole_magnitude : ℕ → ℤ → Option ℕ
whole_magnitude d (pos e) = Some (d * 10 ^ e)
whole_magnitude d (negsuc e) = quotient d (10 ^ suc e)

-- a magnitude that is there, where it is at most 2147483647
abbrev pub limited : Option ℕ → Option ℕ
limited None = None
limited (Some m) = if nat_le m 2147483647 then Some m else None

-- a magnitude with its sign
abbrev pub signed : Bool → ℕ → ℤ
signed negative m = if negative then neg_ℤ (pos m) else pos m

-- the raw nearest to the value, halves away from zero
abbrev pub num : Decimal → ℤ
num d = sat (signed d.negative (raw_magnitude d.digits d.exponent))

-- the value, where it is a whole number of magnitude at most 2147483647
abbrev pub whole : Decimal → Option ℤ
whole d = option_map (signed d.negative) (limited (whole_magnitude d.digits d.exponent))

-- worked values
abbrev pub decimal : Bool → ℕ → ℤ → Decimal
decimal negative digits exponent = record { negative = negative; digits = digits; exponent = exponent }

great : num (decimal false 1 (pos 38)) ≡ pos 2147483647
unfolding raw_magnitude
great = refl

eight_tenths : num (decimal false 8 (negsuc 0)) ≡ pos 52429
unfolding raw_magnitude
eight_tenths = refl

minus_one_tenth : num (decimal true 1 (negsuc 0)) ≡ neg_ℤ (pos 6554)
unfolding raw_magnitude
minus_one_tenth = refl

-- 1 / 131072 is half a raw
half_up : num (decimal false 762939453125 (negsuc 16)) ≡ pos 1
unfolding raw_magnitude
half_up = refl

half_down : num (decimal true 762939453125 (negsuc 16)) ≡ neg_ℤ (pos 1)
unfolding raw_magnitude
half_down = refl

twelve : whole (decimal true 1200 (negsuc 1)) ≡ Some (neg_ℤ (pos 12))
unfolding whole_magnitude
twelve = refl

one_tenth : whole (decimal false 1 (negsuc 0)) ≡ None
unfolding whole_magnitude
one_tenth = refl

limit : whole (decimal false 2147483647 (pos 0)) ≡ Some (pos 2147483647)
unfolding whole_magnitude
limit = refl

past_limit : whole (decimal false 2147483648 (pos 0)) ≡ None
unfolding whole_magnitude
past_limit = refl
