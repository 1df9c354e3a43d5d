-- The text that a string in double quotes stands for.
use Rattle.std.specs.Prelude.{ℕ, ◌+◌, Bool, true, false, List, [], ◌∷◌, ◌++◌, Option, Some, None, Result, Ok, Err, if◌then◌else◌, ◌==◌, ◌≡◌, refl, codes}
use Rattle.rib_lex.specs.Bytes.{is_plain}
use Rattle.rib_lex.specs.declared.token.LexCode.{LexCode}
use Rattle.rib_lex.specs.declared.token.LexCode.TheVariants.{L1, L2, L3}

-- what a byte behind a backslash stands for: a quote, a backslash, n, t, or a line feed, which stands for nothing
abbrev pub escaped : ℕ → Option (List ℕ)
escaped b =
    if b == 34 then Some (34 ∷ [])
    else if b == 92 then Some (92 ∷ [])
    else if b == 110 then Some (10 ∷ [])
    else if b == 116 then Some (9 ∷ [])
    else if b == 10 then Some []
    else None

-- a text and how many bytes it takes: more in front, in so many bytes more
abbrev pub longer : List ℕ → ℕ → Result (List ℕ × ℕ) LexCode → Result (List ℕ × ℕ) LexCode
longer front n (Ok s) = Ok (front ++ s.0, n + s.1)
longer front n (Err code) = Err code

abbrev pub longer_where : Option (List ℕ) → Result (List ℕ × ℕ) LexCode → Result (List ℕ × ℕ) LexCode
longer_where None s = Err L3
longer_where (Some front) s = longer front 1 s

-- the text of the string that goes on with these bytes, behind a backslash or not, and how many bytes it takes with its
-- closing quote
abbrev pub string_in : Bool → List ℕ → Result (List ℕ × ℕ) LexCode
string_in behind [] = Err L2
string_in true (b ∷ bs) = longer_where (escaped b) (string_in false bs)
string_in false (b ∷ bs) =
    if b == 34 then Ok ([], 1)
    else if b == 92 then longer [] 1 (string_in true bs)
    else if is_plain b then longer (b ∷ []) 1 (string_in false bs)
    else Err L1

-- worked values
quoted : string_in false (codes "a\\\"b\\n\\\\\" c") ≡ Ok (codes "a\"b\n\\", 9)
quoted = refl

joined_lines : string_in false (codes "a\\\nb\"") ≡ Ok (codes "ab", 5)
joined_lines = refl

unended : string_in false (codes "a\\\"") ≡ Err L2
unended = refl

unknown_escape : string_in false (codes "\\q\"") ≡ Err L3
unknown_escape = refl

return_byte : string_in false (97 ∷ 13 ∷ 34 ∷ []) ≡ Err L1
return_byte = refl
