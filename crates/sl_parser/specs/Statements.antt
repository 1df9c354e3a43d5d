-- The tree of a statement's tokens, or its first fault, by recursion on the levels left.
use Rattle.std.specs.Prelude.{◌≡◌, ℕ, zero, suc, ◌+◌, Bool, true, false, List, [], ◌∷◌, length, Option, Some, None, option_map, Ok}
use Rattle.sl_ast.specs.Syntax as S
use Rattle.sl_ast.specs.declared.kinds.SlType.{SlType}
use Rattle.sl_ast.specs.declared.kinds.Class.{Class}
use Rattle.sl_ast.specs.declared.kinds.SetOperator.{SetOperator}
use Rattle.sl_ast.specs.declared.kinds.SetOperator.TheVariants as sets
use Rattle.sl_ast.specs.declared.syntax.LightWord.{LightWord}
use Rattle.sl_ast.specs.declared.syntax.LightWord.TheVariants as lights
use Rattle.sl_lexer.specs.declared.token.Token.{Token}
use Rattle.sl_lexer.specs.declared.token.TokenKind.{TokenKind}
use Rattle.sl_lexer.specs.declared.token.TokenKind.TheVariants as kinds
use Rattle.sl_lexer.specs.declared.token.Word.{Word}
use Rattle.sl_lexer.specs.declared.token.Word.TheVariants as words
use Rattle.sl_lexer.specs.declared.token.Mark.TheVariants.{LeftParen, RightParen, LeftBrace, RightBrace, Semicolon, Comma}
use Rattle.sl_expression_grammar.specs.Reading.{Reads, ◌>>=◌, many, commas, head_is, unexpected, too_deep, is_mark, rest_after, past}
use Rattle.sl_expression_grammar.specs.Expressions.{expr_at}
use Rattle.sl_parser.specs.declared.declarations.Valued.{Valued}
use Rattle.sl_parser.specs.declared.declarations.Valued.TheVariants.{Always, Never, Freely}

-- a name at the front with its line, and the tokens after it
abbrev pub name_in : TokenKind → Option (List ℕ)
name_in (kinds.Name name) = Some name
name_in _ = None

abbrev pub name_at : List Token → Option (List ℕ × ℕ × List Token)
name_at [] = None
name_at (t ∷ ts) = option_map (λ n. (n, t.line, ts)) (name_in t.kind)

abbrev pub named_then : {A : Type 0} → List Token → (List ℕ → ℕ → List Token → Reads A) → Option (List ℕ × ℕ × List Token) → Reads A
named_then ts go None = unexpected ts
named_then ts go (Some n) = go n.0 n.1 n.2

-- a name, and then the rest
abbrev pub named : {A : Type 0} → List Token → (List ℕ → ℕ → List Token → Reads A) → Reads A
named ts go = named_then ts go (name_at ts)

-- the line of the token at the front, and 0 where none stands there
abbrev pub front_line : List Token → ℕ
front_line [] = 0
front_line (t ∷ ts) = t.line

-- an operator that sets a variable, and the tokens after it
abbrev pub set_in : TokenKind → Option SetOperator
set_in (kinds.Set o) = Some o
set_in _ = None

abbrev pub set_at : List Token → Option (SetOperator × List Token)
set_at [] = None
set_at (t ∷ ts) = option_map (λ o. (o, ts)) (set_in t.kind)

abbrev pub set_then : (List Token → Reads S.Expr) → List ℕ → ℕ → ℕ → List Token → Option (SetOperator × List Token) → Reads S.Assignment
set_then expr name line set_line ts None = unexpected ts
set_then expr name line set_line ts (Some o) = expr o.1 >>= λ e. Ok (record { name = name; operator = o.0; value = e.0; line = line; set_line = set_line }, e.1)

-- an assignment, with the line of its name and that of its operator, which stands right after the name
abbrev pub set_with : (List Token → Reads S.Expr) → List Token → Reads S.Assignment
set_with expr ts = named ts λ name line rest. set_then expr name line (front_line rest) rest (set_at rest)

-- a type at the front, and the tokens after it
abbrev pub type_in : TokenKind → Option SlType
type_in (kinds.Type kind) = Some kind
type_in _ = None

abbrev pub type_at : List Token → Option (SlType × List Token)
type_at [] = None
type_at (t ∷ ts) = option_map (λ k. (k, ts)) (type_in t.kind)

-- a class at the front, if there is one, and the tokens after it
abbrev pub class_in : TokenKind → List Token → List Token → Option Class × List Token
class_in (kinds.Class class) rest ts = (Some class, rest)
class_in _ rest ts = (None, ts)

abbrev pub class_at : List Token → Option Class × List Token
class_at [] = (None, [])
class_at (t ∷ ts) = class_in t.kind ts (t ∷ ts)

-- that class and those tokens after it
abbrev pub IsClassAt : Option Class → List Token → List Token → Type 0
IsClassAt class rest ts = (class ≡ (class_at ts).0) × (rest ≡ (class_at ts).1)

-- the equals sign of a declaration, and the tokens after it
abbrev pub is_equals : TokenKind → Bool
is_equals (kinds.Set sets.Set) = true
is_equals _ = false

-- the value of a declared name: a parameter's must be there, a formal has none, a local's may be there
abbrev pub value_after : (List Token → Reads S.Expr) → List Token → Reads (Option S.Expr)
value_after expr rest = expr rest >>= λ e. Ok (Some e.0, e.1)

abbrev pub value_then : (List Token → Reads S.Expr) → Valued → List Token → Option (List Token) → Reads (Option S.Expr)
value_then expr Always ts None = unexpected ts
value_then expr Always ts (Some rest) = value_after expr rest
value_then expr Freely ts None = Ok (None, ts)
value_then expr Freely ts (Some rest) = value_after expr rest
value_then expr Never ts found = Ok (None, ts)

abbrev pub value_with : (List Token → Reads S.Expr) → Valued → List Token → Reads (Option S.Expr)
value_with expr valued ts = value_then expr valued ts (rest_after is_equals ts)

-- a declared name with its value, its line and that of the token right after it
abbrev pub declared_with : (List Token → Reads S.Expr) → Valued → List Token → Reads S.Declared
declared_with expr valued ts =
    named ts λ name line rest. value_with expr valued rest >>= λ value. Ok (record { name = name; value = value.0; line = line; set_line = front_line rest }, value.1)

-- a class or none, a type and names
abbrev pub group_then : (List Token → Reads S.Expr) → Valued → Option Class → List Token → Option (SlType × List Token) → Reads S.Group
group_then expr valued class ts None = unexpected ts
group_then expr valued class ts (Some k) = commas (declared_with expr valued) k.1 >>= λ names. Ok (record { class = class; kind = k.0; names = names.0 }, names.1)

abbrev pub group_after : (List Token → Reads S.Expr) → Valued → Option Class × List Token → Reads S.Group
group_after expr valued c = group_then expr valued c.0 c.1 (type_at c.1)

-- a declaration: a class or none, a type, and names with their values
abbrev pub group_with : (List Token → Reads S.Expr) → Valued → List Token → Reads S.Group
group_with expr valued ts = group_after expr valued (class_at ts)

-- what a statement may begin with
abbrev pub begins_stmt : TokenKind → Bool
begins_stmt (kinds.Mark Semicolon) = true
begins_stmt (kinds.Mark LeftBrace) = true
begins_stmt (kinds.Name name) = true
begins_stmt (kinds.Class class) = true
begins_stmt (kinds.Type kind) = true
begins_stmt (kinds.Word words.Else) = false
begins_stmt (kinds.Word word) = true
begins_stmt _ = false

abbrev pub is_else : TokenKind → Bool
is_else (kinds.Word words.Else) = true
is_else _ = false

-- a further statement of a block, unless its closing brace stands here
abbrev pub stmt_unless : (List Token → Reads S.Stmt) → List Token → Option (List Token) → Option (Reads S.Stmt)
stmt_unless stmt ts (Some rest) = None
stmt_unless stmt ts None = Some (stmt ts)

abbrev pub next_stmt : (List Token → Reads S.Stmt) → List Token → Option (Reads S.Stmt)
next_stmt stmt ts = stmt_unless stmt ts (rest_after (is_mark RightBrace) ts)

-- the statements after an opening brace, and the closing one
abbrev pub block_in : (List Token → Reads S.Stmt) → List Token → Reads (List S.Stmt)
block_in stmt ts = many (next_stmt stmt) (length ts + 1) ts >>= λ body. past RightBrace body.1 λ rest. Ok (body.0, rest)

-- an expression in parentheses, as statements have it
abbrev pub test_with : (List Token → Reads S.Expr) → List Token → Reads S.Expr
test_with expr ts = past LeftParen ts λ inside. expr inside >>= λ e. past RightParen e.1 λ rest. Ok (e.0, rest)

abbrev pub else_then : (List Token → Reads S.Stmt) → S.Expr → S.Stmt → ℕ → List Token → Option (List Token) → Reads S.Stmt
else_then stmt test first line ts None = Ok (S.test test first line, ts)
else_then stmt test first line ts (Some rest) = stmt rest >>= λ second. Ok (S.test_else test first second.0 line, second.1)

-- an `else` right after the first branch belongs to this `if`
abbrev pub if_with : (List Token → Reads S.Stmt) → (List Token → Reads S.Expr) → ℕ → List Token → Reads S.Stmt
if_with stmt expr line ts = test_with expr ts >>= λ test. stmt test.1 >>= λ first. else_then stmt test.0 first.0 line first.1 (rest_after is_else first.1)

abbrev pub while_with : (List Token → Reads S.Stmt) → (List Token → Reads S.Expr) → ℕ → List Token → Reads S.Stmt
while_with stmt expr line ts = test_with expr ts >>= λ test. stmt test.1 >>= λ body. Ok (S.repeat test.0 body.0 line, body.1)

-- an assignment where a name stands, before a mark
abbrev pub set_or : (List Token → Reads S.Expr) → List Token → Bool → Reads (Option S.Assignment)
set_or expr ts true = set_with expr ts >>= λ set. Ok (Some set.0, set.1)
set_or expr ts false = Ok (None, ts)

abbrev pub is_name : TokenKind → Bool
is_name (kinds.Name name) = true
is_name _ = false

abbrev pub set_maybe : (List Token → Reads S.Expr) → List Token → Reads (Option S.Assignment)
set_maybe expr ts = set_or expr ts (head_is is_name ts)

-- the parentheses of a `for`
abbrev pub For : Type 0
For = Option S.Assignment × S.Expr × Option S.Assignment

-- after the second semicolon, and after the first
abbrev pub step_with : (List Token → Reads S.Expr) → Option S.Assignment → S.Expr → List Token → Reads For
step_with expr first test ts = set_maybe expr ts >>= λ step. past RightParen step.1 λ rest. Ok ((first, test, step.0), rest)

abbrev pub steps_with : (List Token → Reads S.Expr) → Option S.Assignment → List Token → Reads For
steps_with expr first ts = expr ts >>= λ test. past Semicolon test.1 λ after_test. step_with expr first test.0 after_test

abbrev pub for_head : (List Token → Reads S.Expr) → List Token → Reads For
for_head expr ts = past LeftParen ts λ inside. set_maybe expr inside >>= λ first. past Semicolon first.1 λ after_first. steps_with expr first.0 after_first

abbrev pub for_with : (List Token → Reads S.Stmt) → (List Token → Reads S.Expr) → ℕ → List Token → Reads S.Stmt
for_with stmt expr line ts = for_head expr ts >>= λ head. stmt head.1 >>= λ body. Ok (S.steps head.0.0 head.0.1 head.0.2 body.0 line, body.1)

-- two expressions with a comma between them, and a parenthesis
abbrev pub pair_with : (List Token → Reads S.Expr) → List Token → Reads (S.Expr × S.Expr)
pair_with expr ts = expr ts >>= λ a. past Comma a.1 λ after_a. expr after_a >>= λ b. past RightParen b.1 λ rest. Ok ((a.0, b.0), rest)

abbrev pub cone_then : (List Token → Reads S.Expr) → List Token → Option (List Token) → Reads (Option (S.Expr × S.Expr))
cone_then expr ts None = past RightParen ts λ rest. Ok (None, rest)
cone_then expr ts (Some inside) = pair_with expr inside >>= λ cone. Ok (Some cone.0, cone.1)

abbrev pub cone_in : (List Token → Reads S.Expr) → List Token → Reads (Option (S.Expr × S.Expr))
cone_in expr ts = cone_then expr ts (rest_after (is_mark Comma) ts)

-- a place, and an axis and an angle or none, in parentheses
abbrev pub lights_head : (List Token → Reads S.Expr) → List Token → Reads (S.Expr × Option (S.Expr × S.Expr))
lights_head expr ts =
    past LeftParen ts λ inside. expr inside >>= λ place. cone_in expr place.1 >>= λ cone. Ok ((place.0, cone.0), cone.1)

abbrev pub lights_with : (List Token → Reads S.Stmt) → (List Token → Reads S.Expr) → LightWord → ℕ → List Token → Reads S.Stmt
lights_with stmt expr word line ts = lights_head expr ts >>= λ head. stmt head.1 >>= λ body. Ok (S.lights word head.0.0 head.0.1 body.0 line, body.1)

abbrev pub solar_head : (List Token → Reads S.Expr) → List Token → Reads (S.Expr × S.Expr)
solar_head expr ts = past LeftParen ts λ inside. pair_with expr inside

abbrev pub solar_with : (List Token → Reads S.Stmt) → (List Token → Reads S.Expr) → ℕ → List Token → Reads S.Stmt
solar_with stmt expr line ts = solar_head expr ts >>= λ head. stmt head.1 >>= λ body. Ok (S.solar head.0.0 head.0.1 body.0 line, body.1)

abbrev pub return_with : (List Token → Reads S.Expr) → ℕ → List Token → Reads S.Stmt
return_with expr line ts = expr ts >>= λ e. past Semicolon e.1 λ rest. Ok (S.give e.0 line, rest)

abbrev pub assign_with : (List Token → Reads S.Expr) → List Token → Reads S.Stmt
assign_with expr ts = set_with expr ts >>= λ set. past Semicolon set.1 λ rest. Ok (S.assign set.0, rest)

abbrev pub declare_with : (List Token → Reads S.Expr) → ℕ → List Token → Reads S.Stmt
declare_with expr line ts = group_with expr Freely ts >>= λ g. past Semicolon g.1 λ rest. Ok (S.declare g.0.class g.0.kind g.0.names line, rest)

abbrev pub leave_with : ℕ → List Token → Reads S.Stmt
leave_with line ts = past Semicolon ts λ rest. Ok (S.leave line, rest)

abbrev pub again_with : ℕ → List Token → Reads S.Stmt
again_with line ts = past Semicolon ts λ rest. Ok (S.again line, rest)

abbrev pub word_with : (List Token → Reads S.Stmt) → (List Token → Reads S.Expr) → Word → ℕ → List Token → List Token → Reads S.Stmt
word_with stmt expr words.Break line rest ts = leave_with line rest
word_with stmt expr words.Continue line rest ts = again_with line rest
word_with stmt expr words.Return line rest ts = return_with expr line rest
word_with stmt expr words.If line rest ts = if_with stmt expr line rest
word_with stmt expr words.Else line rest ts = unexpected ts
word_with stmt expr words.While line rest ts = while_with stmt expr line rest
word_with stmt expr words.For line rest ts = for_with stmt expr line rest
word_with stmt expr words.Illuminance line rest ts = lights_with stmt expr lights.Illuminance line rest
word_with stmt expr words.Illuminate line rest ts = lights_with stmt expr lights.Illuminate line rest
word_with stmt expr words.Solar line rest ts = solar_with stmt expr line rest

-- a statement that has opened its level, by its first token
abbrev pub stmt_in : (List Token → Reads S.Stmt) → (List Token → Reads S.Expr) → TokenKind → ℕ → List Token → List Token → Reads S.Stmt
stmt_in stmt expr (kinds.Mark Semicolon) line rest ts = Ok (S.empty line, rest)
stmt_in stmt expr (kinds.Mark LeftBrace) line rest ts = block_in stmt rest >>= λ body. Ok (S.block (S.stmts body.0) line, body.1)
stmt_in stmt expr (kinds.Name name) line rest ts = assign_with expr ts
stmt_in stmt expr (kinds.Class class) line rest ts = declare_with expr line ts
stmt_in stmt expr (kinds.Type kind) line rest ts = declare_with expr line ts
stmt_in stmt expr (kinds.Word word) line rest ts = word_with stmt expr word line rest ts
stmt_in stmt expr _ line rest ts = unexpected ts

abbrev pub stmt_opened : (List Token → Reads S.Stmt) → (List Token → Reads S.Expr) → List Token → Reads S.Stmt
stmt_opened stmt expr [] = unexpected []
stmt_opened stmt expr (t ∷ ts) = stmt_in stmt expr t.kind t.line ts (t ∷ ts)

-- where so many levels are left
abbrev pub stmt_at : ℕ → List Token → Reads S.Stmt
stmt_at zero = too_deep begins_stmt
stmt_at (suc levels) = stmt_opened (stmt_at levels) (expr_at levels)
