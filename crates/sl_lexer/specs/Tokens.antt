-- The tokens of a text with their lines. The last is bad where the text goes on and no token begins.
use Rattle.std.specs.Prelude.{ℕ, zero, suc, ◌+◌, ◌-◌, ◌==◌, List, [], ◌∷◌, count_by, if◌then◌else◌}
use Rattle.sl_lexer.specs.Found.{found_in}
use Rattle.sl_lexer.specs.declared.token.Token.{Token}
use Rattle.sl_lexer.specs.declared.token.TokenKind.TheVariants as kinds
use Rattle.sl_lexer.specs.declared.found.Found.{Found}
use Rattle.sl_lexer.specs.declared.found.Found.TheVariants.{Blank, Whole, Bad}

-- the line after a byte
abbrev pub line_after : ℕ → ℕ → ℕ
line_after b line = if b == 10 then line + 1 else line

-- what was found, and then what stands after so many bytes
abbrev pub found_then : Found → ℕ → (ℕ → List Token) → List Token
found_then (Blank n) line rest = rest n
found_then (Whole kind n) line rest = record { kind = kind; line = line } ∷ rest n
found_then Bad line rest = record { kind = kinds.Bad; line = line } ∷ []

-- the tokens of these bytes, of which so many belong to what was taken before
abbrev pub tokens_from : ℕ → ℕ → List ℕ → List Token
tokens_from taken line [] = []
tokens_from (suc taken) line (b ∷ bs) = tokens_from taken (line_after b line) bs
tokens_from zero line (b ∷ bs) = found_then (found_in (b ∷ bs)) line (λ n. tokens_from (n - 1) (line_after b line) bs)

abbrev pub tokens_of : List ℕ → List Token
tokens_of bytes = tokens_from 0 1 bytes

-- the line after the last line feed
abbrev pub last_line : List ℕ → ℕ
last_line bytes = 1 + count_by (λ b. b == 10) bytes
