-- Laws of tokens and of the grammar.
use Rattle.std.specs.Prelude.{◌≡◌, ◌≤◌, ◌<◌, ◌==◌, ◌↔◌, ◌||◌, ℕ, ◌+◌, Bool, true, false, List, [], ◌∷◌, ◌++◌, take, drop, count_by, Ok, Err}
use Rattle.sl_ast.specs.Syntax.{Expr, Shader}
use Rattle.sl_ast.specs.Levels.{levels_of, levels_file}
use Rattle.sl_lexer.specs.declared.token.Token.{Token}
use Rattle.sl_lexer.specs.declared.token.TokenKind.{TokenKind}
use Rattle.sl_lexer.specs.declared.token.TokenKind.TheVariants as kinds
use Rattle.sl_lexer.specs.declared.found.Found.{Found}
use Rattle.sl_lexer.specs.declared.found.Found.TheVariants.{Blank, Whole, Bad}
use Rattle.sl_expression_grammar.specs.declared.fault.SlCode.{SlCode}
use Rattle.sl_expression_grammar.specs.declared.fault.SlCode.TheVariants.{P1, P2, P3}
use Rattle.sl_expression_grammar.specs.Reading.{head_is, is_bad}
use Rattle.sl_grammar.specs.Bare.{bare, bare_shader}
use Rattle.sl_expression_grammar.specs.Expressions.{begins_expr, expr_at}
use Rattle.sl_parser.specs.Files.{file_of, parsed}
use Rattle.sl_parser.specs.Statements.{begins_stmt}
use Rattle.sl_grammar.specs.Grammatical.{Grammatical, Ends, GrammaticalShader}
use Rattle.sl_lexer.specs.Found.{found_in}
use Rattle.sl_lexer.specs.Tokens.{tokens_from, tokens_of}
use Rattle.sl_parser.specs.Spelled.{kinds_of, spelled, spelled_shader}

-- the tokens of the bytes after so many, on the line that these lead to
abbrev pub tokens_after : ℕ → ℕ → List ℕ → List Token
tokens_after n line bytes = tokens_from 0 (line + count_by (λ b. b == 10) (take n bytes)) (drop n bytes)

-- what stands at the front, and then the tokens of what is after it; none after a bad one
abbrev pub in_turn : Found → ℕ → List ℕ → List Token
in_turn (Blank n) line bytes = tokens_after n line bytes
in_turn (Whole kind n) line bytes = record { kind = kind; line = line } ∷ tokens_after n line bytes
in_turn Bad line bytes = record { kind = kinds.Bad; line = line } ∷ []

-- the tokens of a text stand one after another
abbrev pub TokensInTurn : Type 0
TokensInTurn = (line b : ℕ) (bs : List ℕ) → tokens_from 0 line (b ∷ bs) ≡ in_turn (found_in (b ∷ bs)) line (b ∷ bs)

-- whatever stands after the faulty token, the fault is the same: so no text that begins like this is accepted
abbrev pub FaultStays : Type 0
FaultStays =
    (before : List Token) (faulty : Token) (rest_after other : List Token) (code : SlCode)
    → file_of 64 (before ++ (faulty ∷ rest_after)) ≡ Err (code, faulty ∷ rest_after)
    → file_of 64 (before ++ (faulty ∷ other)) ≡ Err (code, faulty ∷ other)

-- a token at which a level may open: one that a statement begins with, or an expression; prefix operators, and types before a value, are among
-- those that an expression begins with
abbrev pub opens : TokenKind → Bool
opens k = begins_stmt k || begins_expr k

-- where a fault stands: P1 where no token begins, P2 where one does or the text ends, P3 at one that opens a level
abbrev pub StandsAt : SlCode → List Token → Type 0
StandsAt P1 rest = head_is is_bad rest ≡ true
StandsAt P2 rest = head_is is_bad rest ≡ false
StandsAt P3 rest = head_is opens rest ≡ true

-- a fault is P1 exactly where no token begins at its place
abbrev pub BadTokens : Type 0
BadTokens = (ts rest : List Token) (code : SlCode) → file_of 64 ts ≡ Err (code, rest) → (code ≡ P1) ↔ (head_is is_bad rest ≡ true)

-- P3 stands at a token at which a level opens
abbrev pub DeepTokens : Type 0
DeepTokens = (ts rest : List Token) → file_of 64 ts ≡ Err (P3, rest) → head_is opens rest ≡ true

-- the tokens of an expression of the grammar, on any lines, are read as that expression up to lines, before what no
-- expression goes on at, where enough levels are left
abbrev pub ExprAccepted : Type 0
ExprAccepted =
    (e : Expr) → Grammatical e → (levels : ℕ) → levels_of e ≤ levels → (ts : List Token) (rest_after : List TokenKind)
    → kinds_of ts ≡ spelled e ++ rest_after → Ends 10 rest_after
    → (x : Expr) × ((rest : List Token) × ((expr_at levels ts ≡ Ok (x, rest)) × ((bare x ≡ bare e) × (kinds_of rest ≡ rest_after))))

-- two expressions of the grammar that are spelled alike are the same up to lines
abbrev pub ExprSpelledOnce : Type 0
ExprSpelledOnce = (a b : Expr) → Grammatical a → Grammatical b → spelled a ≡ spelled b → bare a ≡ bare b

-- a text whose tokens spell a tree of the grammar that opens at most 64 levels is accepted, and read as that tree up to lines
abbrev pub ShaderAccepted : Type 0
ShaderAccepted =
    (s : Shader) → GrammaticalShader s → levels_file s.functions s.params s.body ≤ 64 → (bytes : List ℕ) → kinds_of (tokens_of bytes) ≡ spelled_shader s
    → (x : Shader) × ((parsed bytes ≡ Ok x) × (bare_shader x ≡ bare_shader s))

-- what is read is a tree of the grammar that opens at most 64 levels, and spells the text's tokens
abbrev pub ShaderGrammatical : Type 0
ShaderGrammatical =
    (bytes : List ℕ) (s : Shader) → parsed bytes ≡ Ok s
    → GrammaticalShader s × ((levels_file s.functions s.params s.body ≤ 64) × (kinds_of (tokens_of bytes) ≡ spelled_shader s))

-- two trees of the grammar that are spelled alike are the same up to lines
abbrev pub ShaderSpelledOnce : Type 0
ShaderSpelledOnce = (a b : Shader) → GrammaticalShader a → GrammaticalShader b → spelled_shader a ≡ spelled_shader b → bare_shader a ≡ bare_shader b

-- the tokens before a fault begin a tree of the grammar
abbrev pub FaultFirst : Type 0
FaultFirst =
    (ts rest : List Token) (code : SlCode) → file_of 64 ts ≡ Err (code, rest)
    → (s : Shader) × (GrammaticalShader s × ((front : List TokenKind) × ((other : List TokenKind) × ((kinds_of ts ≡ front ++ kinds_of rest) × (spelled_shader s ≡ front ++ other)))))

-- where a tree of the grammar spells refused tokens, one level too many is open at the fault
abbrev pub TextUnspelled : Type 0
TextUnspelled =
    (ts rest : List Token) (code : SlCode) → file_of 64 ts ≡ Err (code, rest)
    → (s : Shader) → GrammaticalShader s → kinds_of ts ≡ spelled_shader s
    → (code ≡ P3) × (64 < levels_file s.functions s.params s.body)

-- the same of every tree that begins with the tokens up to and with the faulty one: any other fault stands at the first
-- token with which no text of the grammar goes on
abbrev pub FaultUnspelled : Type 0
FaultUnspelled =
    (before : List Token) (faulty : Token) (rest_after other : List Token) (code : SlCode) → file_of 64 (before ++ (faulty ∷ rest_after)) ≡ Err (code, faulty ∷ rest_after)
    → (s : Shader) → GrammaticalShader s → kinds_of (before ++ (faulty ∷ other)) ≡ spelled_shader s
    → (code ≡ P3) × (64 < levels_file s.functions s.params s.body)
