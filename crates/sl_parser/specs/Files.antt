-- The tree of a file's tokens, or its first fault, where so many levels may be open at once.
use Rattle.std.specs.Prelude.{ℕ, Bool, true, false, List, [], ◌∷◌, length, Option, Some, None, option_map, Result, Ok, Err}
use Rattle.sl_ast.specs.Syntax as S
use Rattle.sl_ast.specs.declared.kinds.SlType.{SlType}
use Rattle.sl_ast.specs.declared.kinds.SlKind.{SlKind}
use Rattle.sl_lexer.specs.declared.token.Token.{Token}
use Rattle.sl_lexer.specs.declared.token.TokenKind.{TokenKind}
use Rattle.sl_lexer.specs.declared.token.TokenKind.TheVariants as kinds
use Rattle.sl_lexer.specs.declared.token.Mark.TheVariants.{LeftParen, RightParen, LeftBrace, Semicolon}
use Rattle.sl_lexer.specs.Tokens.{tokens_of, last_line}
use Rattle.sl_expression_grammar.specs.declared.fault.SlCode.{SlCode}
use Rattle.sl_expression_grammar.specs.Reading.{Reads, ◌>>=◌, with_front, many, unexpected, is_mark, rest_after, past}
use Rattle.sl_expression_grammar.specs.Expressions.{expr_at}
use Rattle.sl_parser.specs.Statements.{named, type_at, group_with, block_in, stmt_at}
use Rattle.sl_parser.specs.declared.declarations.Valued.{Valued}
use Rattle.sl_parser.specs.declared.declarations.Valued.TheVariants.{Always, Never}

-- the tokens after a semicolon, unless the closing parenthesis stands there
abbrev pub unless_closed : Option (List Token) → Option (List Token) → Option (List Token)
unless_closed after None = after
unless_closed after (Some rest) = None

abbrev pub goes_on : Option (List Token) → Option (List Token)
goes_on None = None
goes_on (Some rest) = unless_closed (Some rest) (rest_after (is_mark RightParen) rest)

abbrev pub semicolon_at : List Token → Option (List Token)
semicolon_at ts = goes_on (rest_after (is_mark Semicolon) ts)

abbrev pub next_group : (List Token → Reads S.Group) → List Token → Option (Reads S.Group)
next_group group ts = option_map group (semicolon_at ts)

-- groups, and true where a semicolon stands after the last
abbrev pub Groups : Type 0
Groups = List S.Group × Bool

-- the end of groups that are not empty
abbrev pub groups_end : List S.Group → List Token → Option (List Token) → Reads Groups
groups_end groups ts None = past RightParen ts λ rest. Ok ((groups, false), rest)
groups_end groups ts (Some rest_after_mark) = past RightParen rest_after_mark λ rest. Ok ((groups, true), rest)

abbrev pub some_groups : (List Token → Reads S.Group) → List Token → Reads (List S.Group)
some_groups group ts = group ts >>= λ g. with_front (g.0 ∷ []) (many (next_group group) (length g.1) g.1)

-- groups after an opening parenthesis, and the closing one
abbrev pub groups_in : (List Token → Reads S.Group) → List Token → Option (List Token) → Reads Groups
groups_in group ts (Some rest) = Ok (([], false), rest)
groups_in group ts None = some_groups group ts >>= λ groups. groups_end groups.0 groups.1 (rest_after (is_mark Semicolon) groups.1)

abbrev pub groups_with : ℕ → Valued → List Token → Reads Groups
groups_with levels valued ts = past LeftParen ts λ inside. groups_in (group_with (expr_at levels) valued) inside (rest_after (is_mark RightParen) inside)

-- the block of a function or a shader
abbrev pub body_at : ℕ → List Token → Reads (List S.Stmt)
body_at levels ts = past LeftBrace ts λ inside. block_in (stmt_at levels) inside

abbrev pub function_with : ℕ → SlType → List Token → Reads S.Function
function_with levels returns ts =
    named ts λ name line rest. groups_with levels Never rest >>= λ formals. body_at levels formals.1 >>= λ body.
    Ok (record { returns = returns; name = name; formals = formals.0.0; ended = formals.0.1; body = S.stmts body.0; line = line }, body.1)

-- the functions before the shader
abbrev pub next_function : ℕ → List Token → Option (Reads S.Function)
next_function levels ts = option_map (λ k. function_with levels k.0 k.1) (type_at ts)

abbrev pub functions_in : ℕ → List Token → Reads (List S.Function)
functions_in levels ts = many (next_function levels) (length ts) ts

-- the word for a shader's kind with its line, and the tokens after it
abbrev pub sort_in : TokenKind → Option SlKind
sort_in (kinds.Kind kind) = Some kind
sort_in _ = None

abbrev pub sort_at : List Token → Option (SlKind × ℕ × List Token)
sort_at [] = None
sort_at (t ∷ ts) = option_map (λ k. (k, t.line, ts)) (sort_in t.kind)

abbrev pub shader_then : ℕ → List S.Function → List Token → Option (SlKind × ℕ × List Token) → Reads S.Shader
shader_then levels functions ts None = unexpected ts
shader_then levels functions ts (Some k) =
    named k.2 λ name at rest. groups_with levels Always rest >>= λ params. body_at levels params.1 >>= λ body.
    Ok (record { functions = functions; kind = k.0; name = name; params = params.0.0; ended = params.0.1; body = S.stmts body.0; line = k.1 }, body.1)

-- nothing stands after
abbrev pub ended : S.Shader × List Token → Reads S.Shader
ended (s, []) = Ok (s, [])
ended (s, t ∷ ts) = unexpected (t ∷ ts)

-- functions, and a shader after them, to the end of the text
abbrev pub file_of : ℕ → List Token → Reads S.Shader
file_of levels ts = functions_in levels ts >>= λ fs. shader_then levels fs.0 fs.1 (sort_at fs.1) >>= ended

-- the line of the first of these tokens, or of the text's end
abbrev pub line_at : ℕ → List Token → ℕ
line_at end [] = end
line_at end (t ∷ ts) = t.line

abbrev pub placed : ℕ → Reads S.Shader → Result S.Shader (SlCode × ℕ)
placed end (Ok x) = Ok x.0
placed end (Err e) = Err (e.0, line_at end e.1)

-- the tree of a text, or its first fault with its line: 64 levels may be open at once
abbrev pub parsed : List ℕ → Result S.Shader (SlCode × ℕ)
parsed bytes = placed (last_line bytes) (file_of 64 (tokens_of bytes))
