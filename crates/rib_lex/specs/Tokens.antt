-- The tokens of a scene's text with their lines, by the lexical rules of the ASCII RIB binding (RenderMan Interface 3.2,
-- appendix C.2).
use Rattle.std.specs.Prelude.{◌≡◌, refl, ℕ, zero, suc, ◌+◌, ◌-◌, false, List, [], ◌∷◌, ◌++◌, Result, Ok, Err, Vec, pos, negsuc, if◌then◌else◌, ◌==◌, codes}
use Rattle.std.specs.declared.alloc.Global.{Global}
use Rattle.rib_lex.specs.Found.{found_at}
use Rattle.rib_lex.specs.declared.token.Token.{Token}
use Rattle.rib_lex.specs.declared.token.TokenKind.{TokenKind}
use Rattle.rib_lex.specs.declared.token.TokenKind.TheVariants.{Name, Str, Number, Open, Close}
use Rattle.rib_lex.specs.declared.token.LexCode.{LexCode}
use Rattle.rib_lex.specs.declared.token.LexCode.TheVariants.{L1, L2, L3, L4}
use Rattle.rib_lex.specs.declared.token.LexFault.{LexFault}
use Rattle.rib_lex.specs.declared.token.LexFault.TheVariants.{At, NoMemory}
use Rattle.rib_lex.specs.declared.found.Found.{Found}
use Rattle.rib_lex.specs.declared.found.Found.TheVariants.{Blank, Whole, Fault}

-- a fault and its line
abbrev pub Placed : Type 0
Placed = LexCode × ℕ

abbrev pub token : TokenKind → ℕ → Token
token kind line = record { kind = kind; line = line }

abbrev pub with_front : List Token → Result (List Token) Placed → Result (List Token) Placed
with_front front (Ok ts) = Ok (front ++ ts)
with_front front (Err e) = Err e

-- the line behind a byte
abbrev pub line_after : ℕ → ℕ → ℕ
line_after b line = if b == 10 then line + 1 else line

-- what was found on this line, and then what stands behind so many bytes
abbrev pub found_then : Found → ℕ → (ℕ → Result (List Token) Placed) → Result (List Token) Placed
found_then (Blank n) line behind = behind n
found_then (Whole kind n) line behind = with_front (token kind line ∷ []) (behind n)
found_then (Fault code) line behind = Err (code, line)

-- the tokens of these bytes, the first so many of which belong to what was found before them
abbrev pub tokens_from : ℕ → ℕ → List ℕ → Result (List Token) Placed
tokens_from taken line [] = Ok []
tokens_from (suc taken) line (b ∷ bs) = tokens_from taken (line_after b line) bs
tokens_from zero line (b ∷ bs) = found_then (found_at b bs) line (λ n. tokens_from (n - 1) (line_after b line) bs)

-- the tokens of a text with their lines, or its first fault with its line
abbrev pub tokens_of : List ℕ → Result (List Token) Placed
tokens_of bytes = tokens_from 0 1 bytes

-- what was answered is this, and where memory ran out nothing is said
abbrev pub Gives : Result (Vec Token Global) LexFault → Result (List Token) Placed → Type 0
Gives (Ok v) tokens = tokens ≡ Ok v.items
Gives (Err (At code line)) tokens = tokens ≡ Err (code, line)
Gives (Err NoMemory) tokens = Unit {0}

-- worked values
request : tokens_of (codes "Color [1 .5]# c\n\"a\" x") ≡ Ok (
    token (Name (codes "Color")) 1
    ∷ token Open 1
    ∷ token (Number (record { negative = false; digits = 1; exponent = pos 0 })) 1
    ∷ token (Number (record { negative = false; digits = 5; exponent = negsuc 0 })) 1
    ∷ token Close 1
    ∷ token (Str (codes "a")) 2
    ∷ token (Name (codes "x")) 2
    ∷ [])
request = refl

unended_string : tokens_of (codes "Display \"a") ≡ Err (L2, 1)
unended_string = refl

unknown_escape : tokens_of (codes "Display \"\\q\"") ≡ Err (L3, 1)
unknown_escape = refl

run_on : tokens_of (codes "Format 2x 2 1") ≡ Err (L4, 1)
run_on = refl

no_token : tokens_of (codes "a\n$") ≡ Err (L1, 2)
no_token = refl
