-- What stands at the front of bytes.
use Rattle.std.specs.Prelude.{◌≤◌, ℕ, suc, ◌+◌, Bool, true, false, ◌&&◌, ◌||◌, List, [], ◌∷◌, ◌++◌, take, Option, Some, None, option_map, if◌then◌else◌, ◌==◌}
use Rattle.std.specs.List.{prefix_len, take_while}
use Rattle.sl_ast.specs.declared.kinds.Operator.TheVariants as operators
use Rattle.sl_ast.specs.declared.kinds.SetOperator.TheVariants as sets
use Rattle.sl_lexer.specs.Bytes.{is_white, is_digit, is_letter, is_name, is_in_line, is_plain, is_point, is_equals, head_byte}
use Rattle.sl_lexer.specs.Numbers.{number_len}
use Rattle.sl_lexer.specs.Words.{kind_named}
use Rattle.sl_lexer.specs.declared.token.Mark.{Mark}
use Rattle.sl_lexer.specs.declared.token.Mark.TheVariants as marks
use Rattle.sl_lexer.specs.declared.token.TokenKind.{TokenKind}
use Rattle.sl_lexer.specs.declared.token.TokenKind.TheVariants as kinds
use Rattle.sl_lexer.specs.declared.found.Found.{Found}
use Rattle.sl_lexer.specs.declared.found.Found.TheVariants.{Blank, Whole, Bad}

-- what a byte after a backslash stands for
abbrev pub escaped : ℕ → Option (List ℕ)
escaped b =
    if b == 34 then Some (34 ∷ [])
    else if b == 92 then Some (92 ∷ [])
    else if b == 110 then Some (10 ∷ [])
    else if b == 116 then Some (9 ∷ [])
    else if b == 10 then Some []
    else None

-- a string's text, and how many bytes it takes with its closing quote
abbrev pub longer : List ℕ → ℕ → Option (List ℕ × ℕ) → Option (List ℕ × ℕ)
longer front n None = None
longer front n (Some s) = Some (front ++ s.0, n + s.1)

abbrev pub longer_where : Option (List ℕ) → Option (List ℕ × ℕ) → Option (List ℕ × ℕ)
longer_where None s = None
longer_where (Some front) s = longer front 1 s

-- the string that goes on with these bytes, after a backslash or not
abbrev pub string_in : Bool → List ℕ → Option (List ℕ × ℕ)
string_in after_backslash [] = None
string_in true (b ∷ bs) = longer_where (escaped b) (string_in false bs)
string_in false (b ∷ bs) =
    if b == 34 then Some ([], 1)
    else if b == 92 then longer [] 1 (string_in true bs)
    else if is_plain b then longer (b ∷ []) 1 (string_in false bs)
    else None

abbrev pub found_string : Option (List ℕ × ℕ) → Found
found_string None = Bad
found_string (Some s) = Whole (kinds.Str s.0) (s.1 + 1)

-- how many bytes there are up to the end of a comment, after a star or not
abbrev pub comment_in : Bool → List ℕ → Option ℕ
comment_in star [] = None
comment_in star (b ∷ bs) = if star && b == 47 then Some 1 else option_map suc (comment_in (b == 42) bs)

abbrev pub found_comment : Option ℕ → Found
found_comment None = Bad
found_comment (Some n) = Blank (n + 2)

-- one byte, or two where the second is an equals sign
abbrev pub with_equals : TokenKind → TokenKind → List ℕ → Found
with_equals single double bs = if head_byte is_equals bs then Whole double 2 else Whole single 1

-- two equal bytes
abbrev pub twice : ℕ → TokenKind → List ℕ → Found
twice b double bs = if head_byte (λ x. x == b) bs then Whole double 2 else Bad

-- after a slash
abbrev pub found_slash : List ℕ → Found
found_slash [] = Whole (kinds.Operator operators.Divide) 1
found_slash (b ∷ bs) =
    if b == 47 then Blank (prefix_len is_in_line bs + 2)
    else if b == 42 then found_comment (comment_in false bs)
    else with_equals (kinds.Operator operators.Divide) (kinds.Set sets.Divide) (b ∷ bs)

abbrev pub found_number : List ℕ → Option ℕ → Found
found_number bs None = Bad
found_number bs (Some n) = Whole (kinds.Number (take n bs)) n

-- a digit, or a point before a digit
abbrev pub begins_number : List ℕ → Bool
begins_number [] = false
begins_number (b ∷ bs) = is_digit b || is_point b && head_byte is_digit bs

abbrev pub found_word : List ℕ → Found
found_word bs = Whole (kind_named (take_while is_name bs)) (prefix_len is_name bs)

abbrev pub mark_at : ℕ → Option Mark
mark_at b =
    if b == 40 then Some marks.LeftParen
    else if b == 41 then Some marks.RightParen
    else if b == 123 then Some marks.LeftBrace
    else if b == 125 then Some marks.RightBrace
    else if b == 59 then Some marks.Semicolon
    else if b == 44 then Some marks.Comma
    else if b == 63 then Some marks.Question
    else if b == 58 then Some marks.Colon
    else None

abbrev pub found_operator : ℕ → List ℕ → Found
found_operator b bs =
    if b == 43 then with_equals (kinds.Operator operators.Add) (kinds.Set sets.Add) bs
    else if b == 45 then with_equals (kinds.Operator operators.Subtract) (kinds.Set sets.Subtract) bs
    else if b == 42 then with_equals (kinds.Operator operators.Multiply) (kinds.Set sets.Multiply) bs
    else if b == 61 then with_equals (kinds.Set sets.Set) (kinds.Operator operators.Equal) bs
    else if b == 33 then with_equals kinds.Not (kinds.Operator operators.NotEqual) bs
    else if b == 60 then with_equals (kinds.Operator operators.Less) (kinds.Operator operators.LessEqual) bs
    else if b == 62 then with_equals (kinds.Operator operators.Greater) (kinds.Operator operators.GreaterEqual) bs
    else if b == 94 then Whole (kinds.Operator operators.Cross) 1
    else if b == 46 then Whole (kinds.Operator operators.Dot) 1
    else if b == 124 then twice 124 (kinds.Operator operators.Or) bs
    else if b == 38 then twice 38 (kinds.Operator operators.And) bs
    else Bad

abbrev pub found_sign : ℕ → List ℕ → Option Mark → Found
found_sign b bs None = found_operator b bs
found_sign b bs (Some mark) = Whole (kinds.Mark mark) 1

-- what stands at the front: blank bytes, a token and how many bytes it takes, or no token
abbrev pub found_at : ℕ → List ℕ → Found
found_at b bs =
    if is_white b then Blank 1
    else if b == 47 then found_slash bs
    else if b == 34 then found_string (string_in false bs)
    else if begins_number (b ∷ bs) then found_number (b ∷ bs) (number_len (b ∷ bs))
    else if is_letter b then found_word (b ∷ bs)
    else found_sign b bs (mark_at b)

-- what stands at the front of bytes: blank bytes, a token and its length, or no token
abbrev pub found_in : List ℕ → Found
found_in [] = Bad
found_in (b ∷ bs) = found_at b bs

-- it takes at least one byte, and no more than so many
abbrev pub IsWithin : Found → ℕ → Type 0
IsWithin (Blank n) most = (1 ≤ n) × (n ≤ most)
IsWithin (Whole kind n) most = (1 ≤ n) × (n ≤ most)
IsWithin Bad most = Unit {0}
