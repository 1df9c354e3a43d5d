-- A number: digits with at most one point, and at most one exponent of `e` or `E`, a sign or none, and digits.
use Rattle.std.specs.Prelude.{ℕ, ◌+◌, ◌==◌, List, [], ◌∷◌, drop, Option, Some, None, if◌then◌else◌}
use Rattle.std.specs.List.{prefix_len}
use Rattle.sl_lexer.specs.Bytes.{is_digit, is_point, is_sign, is_e, is_stuck, head_byte}

-- how many bytes of digits stand at the front
abbrev pub digits_len : List ℕ → ℕ
digits_len bs = prefix_len is_digit bs

-- of a point and digits, which may be missing
abbrev pub fraction_len : List ℕ → ℕ
fraction_len [] = 0
fraction_len (b ∷ bs) = if is_point b then 1 + digits_len bs else 0

abbrev pub sign_len : List ℕ → ℕ
sign_len bs = if head_byte is_sign bs then 1 else 0

-- of an `e`, a sign or none and digits, which may not be missing
abbrev pub power_len : ℕ → ℕ → Option ℕ
power_len sign digits = if digits == 0 then None else Some (1 + sign + digits)

abbrev pub power_of : List ℕ → Option ℕ
power_of bs = power_len (sign_len bs) (digits_len (drop (sign_len bs) bs))

-- of an exponent, where there is one; `None` where one is begun and has no digits
abbrev pub exponent_len : List ℕ → Option ℕ
exponent_len [] = Some 0
exponent_len (b ∷ bs) = if is_e b then power_of bs else Some 0

-- of digits and a fraction
abbrev pub decimal_len : List ℕ → ℕ
decimal_len bs = digits_len bs + fraction_len (drop (digits_len bs) bs)

-- nothing may stand after a number that would go on with it
abbrev pub closed_len : ℕ → List ℕ → Option ℕ → Option ℕ
closed_len n rest None = None
closed_len n rest (Some x) = if head_byte is_stuck (drop x rest) then None else Some (n + x)

abbrev pub number_in : ℕ → List ℕ → Option ℕ
number_in n rest = closed_len n rest (exponent_len rest)

-- of a number, where one is well formed at the front
abbrev pub number_len : List ℕ → Option ℕ
number_len bs = number_in (decimal_len bs) (drop (decimal_len bs) bs)
