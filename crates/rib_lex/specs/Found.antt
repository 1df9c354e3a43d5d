-- What stands at the front of a scene's text: white space or a comment, a token, or a fault.
use Rattle.std.specs.Prelude.{◌≤◌, ℕ, ◌+◌, ◌-◌, false, List, [], ◌∷◌, length, Result, Ok, Err, if◌then◌else◌, ◌==◌}
use Rattle.std.specs.List.{prefix_len, take_while}
use Rattle.rib_lex.specs.Bytes.{is_white, is_letter, is_name, is_in_line, begins_number}
use Rattle.rib_lex.specs.Strings.{string_in}
use Rattle.rib_lex.specs.Numbers.{number_at}
use Rattle.fixed_math.specs.declared.decimal.Decimal.{Decimal}
use Rattle.rib_lex.specs.declared.token.TokenKind.TheVariants.{Name, Str, Number, Open, Close}
use Rattle.rib_lex.specs.declared.token.LexCode.{LexCode}
use Rattle.rib_lex.specs.declared.token.LexCode.TheVariants.{L1}
use Rattle.rib_lex.specs.declared.found.Found.{Found}
use Rattle.rib_lex.specs.declared.found.Found.TheVariants.{Blank, Whole, Fault}

-- a string token takes its opening quote too
abbrev pub found_string : Result (List ℕ × ℕ) LexCode → Found
found_string (Ok s) = Whole (Str s.0) (s.1 + 1)
found_string (Err code) = Fault code

-- of so many bytes a number takes those before what stands behind it
abbrev pub found_number : ℕ → Result (Decimal × List ℕ) LexCode → Found
found_number all (Ok n) = Whole (Number n.0) (all - length n.1)
found_number all (Err code) = Fault code

-- what stands at the front, the longest that can, and how many bytes it takes
abbrev pub found_at : ℕ → List ℕ → Found
found_at b bs =
    if is_white b then Blank (prefix_len is_white (b ∷ bs))
    else if b == 35 then Blank (prefix_len is_in_line (b ∷ bs))
    else if b == 91 then Whole Open 1
    else if b == 93 then Whole Close 1
    else if b == 34 then found_string (string_in false bs)
    else if is_letter b then Whole (Name (take_while is_name (b ∷ bs))) (prefix_len is_name (b ∷ bs))
    else if begins_number b then found_number (length (b ∷ bs)) (number_at (b ∷ bs))
    else Fault L1

-- the same of a whole list of bytes
abbrev pub found_in : List ℕ → Found
found_in [] = Fault L1
found_in (b ∷ bs) = found_at b bs

-- it takes at least one byte, and no more than so many
abbrev pub IsWithin : Found → ℕ → Type 0
IsWithin (Blank n) most = (1 ≤ n) × (n ≤ most)
IsWithin (Whole kind n) most = (1 ≤ n) × (n ≤ most)
IsWithin (Fault code) most = Unit {0}
