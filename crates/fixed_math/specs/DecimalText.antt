-- A number's text: an optional sign, digits with at most one point, and an optional exponent of ten.
use Rattle.std.specs.Prelude.{◌≡◌, refl, ℕ, Bool, true, false, ◌&&◌, List, [], ◌∷◌, ◌++◌, length, drop, ℤ, pos, negsuc, neg_ℤ, ◌+ℤ◌, ◌-ℤ◌, Option, Some, None, if◌then◌else◌, codes}
use Rattle.std.specs.List.{prefix_len, take_while}
use Rattle.fixed_math.specs.Whole.{clamp}
use Rattle.fixed_math.specs.NumberBytes.{is_digit, is_sign, is_minus, is_point, is_mark}
use Rattle.fixed_math.specs.Decimal.{signed}
use Rattle.fixed_math.specs.Digits.{value_of, kept_value, dropped_count}
use Rattle.fixed_math.specs.declared.decimal.Decimal.{Decimal}

-- the first byte is there and passes
abbrev pub head_is : (ℕ → Bool) → List ℕ → Bool
head_is p [] = false
head_is p (b ∷ bs) = p b

-- behind the first byte, where it passes
abbrev pub behind_one : (ℕ → Bool) → List ℕ → List ℕ
behind_one p [] = []
behind_one p (b ∷ bs) = if p b then bs else b ∷ bs

-- the digits at the front, and what stands behind them
abbrev pub digits_at : List ℕ → List ℕ
digits_at bs = take_while is_digit bs

abbrev pub behind_digits : List ℕ → List ℕ
behind_digits bs = drop (prefix_len is_digit bs) bs

abbrev pub is_none : List ℕ → Bool
is_none [] = true
is_none (b ∷ bs) = false

-- an exponent as it is written, and what stands behind it
pub record Exponent : Type 0 where
  pub negative : Bool
  pub digits : List ℕ
  pub rest : List ℕ

abbrev pub exponent_text : Bool → List ℕ → List ℕ → Exponent
exponent_text negative ds rest = record { negative = negative; digits = ds; rest = rest }

abbrev pub exponent_value : Bool → List ℕ → ℤ
exponent_value negative ds = signed negative (value_of ds)

-- an exponent has digits
abbrev pub exponent_of : Bool → List ℕ → List ℕ → Option Exponent
exponent_of negative ds rest = if is_none ds then None else Some (exponent_text negative ds rest)

-- the exponent behind its mark
abbrev pub exponent_behind : List ℕ → Option Exponent
exponent_behind bs =
    exponent_of (head_is is_minus bs) (digits_at (behind_one is_sign bs)) (behind_digits (behind_one is_sign bs))

-- the exponent at the front, of no digits where no mark stands there
abbrev pub exponent_at : List ℕ → Option Exponent
exponent_at bs = if head_is is_mark bs then exponent_behind (behind_one is_mark bs) else Some (exponent_text false [] bs)

-- the field of an exponent: within -9999 to 9999
abbrev pub cut : ℤ → ℤ
cut e = clamp (neg_ℤ (pos 9999)) (pos 9999) e

-- a decimal of these digits, so many of them behind the point, times ten to an exponent
abbrev pub decimal_of : Bool → List ℕ → ℕ → ℤ → Decimal
decimal_of negative ds places e = record {
  negative = negative;
  digits = kept_value ds;
  exponent = cut ((e +ℤ pos (dropped_count ds)) -ℤ pos places);
}

-- a number of these parts, with what stands behind it; there is none without a digit
abbrev pub number_of : Bool → List ℕ → List ℕ → Option Exponent → Option (Decimal × List ℕ)
number_of negative whole fraction None = None
number_of negative whole fraction (Some e) =
    if is_none whole && is_none fraction then None
    else Some (decimal_of negative (whole ++ fraction) (length fraction) (exponent_value e.negative e.digits), e.rest)

-- behind the sign, and behind the digits before the point and the point
abbrev pub fraction_place : List ℕ → List ℕ
fraction_place bs = behind_one is_point (behind_digits (behind_one is_sign bs))

-- the number at the front, with what stands behind it
abbrev pub decimal_at : List ℕ → Option (Decimal × List ℕ)
decimal_at bs =
    number_of (head_is is_minus bs) (digits_at (behind_one is_sign bs)) (digits_at (fraction_place bs))
    (exponent_at (behind_digits (fraction_place bs)))

-- worked values
point_first : decimal_at (codes ".8 ") ≡ Some (record { negative = false; digits = 8; exponent = negsuc 0 }, codes " ")
point_first = refl

with_exponent : decimal_at (codes "-1.50e+3]") ≡ Some (record { negative = true; digits = 150; exponent = pos 1 }, codes "]")
with_exponent = refl

twenty_digits : decimal_at (codes "0012345678901234567899.5") ≡ Some (record { negative = false; digits = 123456789012345678; exponent = pos 2 }, [])
twenty_digits = refl

great_exponent : decimal_at (codes "1e-99999") ≡ Some (record { negative = false; digits = 1; exponent = neg_ℤ (pos 9999) }, [])
great_exponent = refl

letter_behind : decimal_at (codes "2x") ≡ Some (record { negative = false; digits = 2; exponent = pos 0 }, codes "x")
letter_behind = refl

second_point : decimal_at (codes "1.2.3") ≡ Some (record { negative = false; digits = 12; exponent = negsuc 0 }, codes ".3")
second_point = refl

sign_alone : decimal_at (codes "+ 1") ≡ None
sign_alone = refl

point_alone : decimal_at (codes "-.") ≡ None
point_alone = refl

mark_alone : decimal_at (codes "1e+") ≡ None
mark_alone = refl
