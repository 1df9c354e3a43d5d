-- A number's text: the longest number at the front, with nothing directly behind it that would go on with it.
use Rattle.std.specs.Prelude.{◌≡◌, refl, ℕ, true, List, pos, Option, Some, None, Result, Ok, Err, if◌then◌else◌, codes}
use Rattle.fixed_math.specs.DecimalText.{head_is, decimal_at}
use Rattle.fixed_math.specs.declared.decimal.Decimal.{Decimal}
use Rattle.rib_lex.specs.Bytes.{runs_on}
use Rattle.rib_lex.specs.declared.token.LexCode.{LexCode}
use Rattle.rib_lex.specs.declared.token.LexCode.TheVariants.{L4}

-- a number that was read, with what stands behind it
abbrev pub closed : Option (Decimal × List ℕ) → Result (Decimal × List ℕ) LexCode
closed None = Err L4
closed (Some n) = if head_is runs_on n.1 then Err L4 else Ok n

-- the number at the front, with what stands behind it
abbrev pub number_at : List ℕ → Result (Decimal × List ℕ) LexCode
number_at bs = closed (decimal_at bs)

-- worked values
with_exponent : number_at (codes "-1.50e+3]") ≡ Ok (record { negative = true; digits = 150; exponent = pos 1 }, codes "]")
with_exponent = refl

letter_behind : number_at (codes "2x") ≡ Err L4
letter_behind = refl

second_point : number_at (codes "1.2.3") ≡ Err L4
second_point = refl

mark_alone : number_at (codes "1e+") ≡ Err L4
mark_alone = refl
