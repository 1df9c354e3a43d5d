-- A tree written as the kinds of its tokens.
use Rattle.std.specs.Prelude.{Bool, true, false, List, [], ◌∷◌, ◌++◌, map, Option, Some, None}
use Rattle.sl_ast.specs.Syntax.{Expr, number, string, name, call, paren, triple, typed, prefixed, chain, choice, Exprs, none, more, Links, end, link, Assignment, Declared, Stmt, empty, leave, again, block, assign, give, declare, test, test_else, repeat, steps, lights, solar, Stmts, done, first, Group, Function, Shader}
use Rattle.sl_ast.specs.declared.kinds.Prefix.{Prefix}
use Rattle.sl_ast.specs.declared.kinds.Prefix.TheVariants as prefixes
use Rattle.sl_ast.specs.declared.kinds.Class.{Class}
use Rattle.sl_ast.specs.declared.kinds.Operator.TheVariants as operators
use Rattle.sl_ast.specs.declared.kinds.SetOperator.TheVariants as sets
use Rattle.sl_ast.specs.declared.syntax.LightWord.{LightWord}
use Rattle.sl_ast.specs.declared.syntax.LightWord.TheVariants as lights_words
use Rattle.sl_ast.specs.declared.syntax.Space.{Space}
use Rattle.sl_lexer.specs.declared.token.Token.{Token}
use Rattle.sl_lexer.specs.declared.token.TokenKind.{TokenKind}
use Rattle.sl_lexer.specs.declared.token.TokenKind.TheVariants as kinds
use Rattle.sl_lexer.specs.declared.token.Mark.TheVariants.{LeftParen, RightParen, LeftBrace, RightBrace, Semicolon, Comma, Question, Colon}
use Rattle.sl_lexer.specs.declared.token.Word.TheVariants as words

abbrev pub kinds_of : List Token → List TokenKind
kinds_of ts = map (λ t. t.kind) ts

abbrev pub spelled_prefix : Prefix → TokenKind
spelled_prefix prefixes.Negative = kinds.Operator operators.Subtract
spelled_prefix prefixes.Not = kinds.Not

abbrev pub spelled_space : Option Space → List TokenKind
spelled_space None = []
spelled_space (Some space) = kinds.Str space.name ∷ []

abbrev mutual
  pub spelled : Expr → List TokenKind
  spelled (number text line) = kinds.Number text ∷ []
  spelled (string text line) = kinds.Str text ∷ []
  spelled (name text line) = kinds.Name text ∷ []
  spelled (call text args line) = kinds.Name text ∷ kinds.Mark LeftParen ∷ (spelled_args args ++ (kinds.Mark RightParen ∷ []))
  spelled (paren e line) = kinds.Mark LeftParen ∷ (spelled e ++ (kinds.Mark RightParen ∷ []))
  spelled (triple kind space x y z line) =
      kinds.Type kind ∷ (spelled_space space ++ (kinds.Mark LeftParen ∷ (spelled x ++ (kinds.Mark Comma ∷ (spelled y ++ (kinds.Mark Comma ∷ (spelled z ++ (kinds.Mark RightParen ∷ []))))))))
  spelled (typed kind space e line) = kinds.Type kind ∷ (spelled_space space ++ spelled e)
  spelled (prefixed operator e line) = spelled_prefix operator ∷ spelled e
  spelled (chain row e rest) = spelled e ++ spelled_links rest
  spelled (choice t e f line) = spelled t ++ (kinds.Mark Question ∷ (spelled e ++ (kinds.Mark Colon ∷ spelled f)))

  pub spelled_args : Exprs → List TokenKind
  spelled_args none = []
  spelled_args (more e rest) = spelled e ++ spelled_more rest

  -- each after a comma
  pub spelled_more : Exprs → List TokenKind
  spelled_more none = []
  spelled_more (more e rest) = kinds.Mark Comma ∷ (spelled e ++ spelled_more rest)

  pub spelled_links : Links → List TokenKind
  spelled_links end = []
  spelled_links (link operator line e rest) = kinds.Operator operator ∷ (spelled e ++ spelled_links rest)

abbrev pub spelled_set : Assignment → List TokenKind
spelled_set a = kinds.Name a.name ∷ kinds.Set a.operator ∷ spelled a.value

abbrev pub spelled_maybe : Option Assignment → List TokenKind
spelled_maybe None = []
spelled_maybe (Some a) = spelled_set a

abbrev pub spelled_value : Option Expr → List TokenKind
spelled_value None = []
spelled_value (Some e) = kinds.Set sets.Set ∷ spelled e

abbrev pub spelled_declared : Declared → List TokenKind
spelled_declared d = kinds.Name d.name ∷ spelled_value d.value

abbrev pub spelled_further : List Declared → List TokenKind
spelled_further [] = []
spelled_further (d ∷ ds) = kinds.Mark Comma ∷ (spelled_declared d ++ spelled_further ds)

abbrev pub spelled_names : List Declared → List TokenKind
spelled_names [] = []
spelled_names (d ∷ ds) = spelled_declared d ++ spelled_further ds

abbrev pub spelled_class : Option Class → List TokenKind
spelled_class None = []
spelled_class (Some class) = kinds.Class class ∷ []

abbrev pub spelled_group : Group → List TokenKind
spelled_group g = spelled_class g.class ++ (kinds.Type g.kind ∷ spelled_names g.names)

-- two expressions and a closing parenthesis
abbrev pub spelled_pair : Expr × Expr → List TokenKind
spelled_pair c = spelled c.0 ++ (kinds.Mark Comma ∷ (spelled c.1 ++ (kinds.Mark RightParen ∷ [])))

abbrev pub spelled_cone : Option (Expr × Expr) → List TokenKind
spelled_cone None = kinds.Mark RightParen ∷ []
spelled_cone (Some c) = kinds.Mark Comma ∷ spelled_pair c

abbrev pub spelled_light : LightWord → TokenKind
spelled_light lights_words.Illuminance = kinds.Word words.Illuminance
spelled_light lights_words.Illuminate = kinds.Word words.Illuminate

abbrev pub spelled_test : Expr → List TokenKind
spelled_test e = kinds.Mark LeftParen ∷ (spelled e ++ (kinds.Mark RightParen ∷ []))

-- the parentheses of a `for`
abbrev pub spelled_for : Option Assignment → Expr → Option Assignment → List TokenKind
spelled_for a e b =
    kinds.Mark LeftParen ∷ (spelled_maybe a ++ (kinds.Mark Semicolon ∷ (spelled e ++ (kinds.Mark Semicolon ∷ (spelled_maybe b ++ (kinds.Mark RightParen ∷ []))))))

abbrev mutual
  pub spelled_stmt : Stmt → List TokenKind
  spelled_stmt (empty line) = kinds.Mark Semicolon ∷ []
  spelled_stmt (leave line) = kinds.Word words.Break ∷ kinds.Mark Semicolon ∷ []
  spelled_stmt (again line) = kinds.Word words.Continue ∷ kinds.Mark Semicolon ∷ []
  spelled_stmt (block body line) = kinds.Mark LeftBrace ∷ (spelled_stmts body ++ (kinds.Mark RightBrace ∷ []))
  spelled_stmt (assign a) = spelled_set a ++ (kinds.Mark Semicolon ∷ [])
  spelled_stmt (give e line) = kinds.Word words.Return ∷ (spelled e ++ (kinds.Mark Semicolon ∷ []))
  spelled_stmt (declare class kind names line) = spelled_group (record { class = class; kind = kind; names = names }) ++ (kinds.Mark Semicolon ∷ [])
  spelled_stmt (test e s line) = kinds.Word words.If ∷ (spelled_test e ++ spelled_stmt s)
  spelled_stmt (test_else e s r line) = kinds.Word words.If ∷ (spelled_test e ++ (spelled_stmt s ++ (kinds.Word words.Else ∷ spelled_stmt r)))
  spelled_stmt (repeat e s line) = kinds.Word words.While ∷ (spelled_test e ++ spelled_stmt s)
  spelled_stmt (steps a e b s line) = kinds.Word words.For ∷ (spelled_for a e b ++ spelled_stmt s)
  spelled_stmt (lights word e c s line) = spelled_light word ∷ kinds.Mark LeftParen ∷ ((spelled e ++ spelled_cone c) ++ spelled_stmt s)
  spelled_stmt (solar e f s line) = kinds.Word words.Solar ∷ kinds.Mark LeftParen ∷ (spelled_pair (e, f) ++ spelled_stmt s)

  pub spelled_stmts : Stmts → List TokenKind
  spelled_stmts done = []
  spelled_stmts (first s rest) = spelled_stmt s ++ spelled_stmts rest

abbrev pub spelled_end : Bool → List TokenKind
spelled_end true = kinds.Mark Semicolon ∷ kinds.Mark RightParen ∷ []
spelled_end false = kinds.Mark RightParen ∷ []

-- each after a semicolon
abbrev pub further_groups : List Group → List TokenKind
further_groups [] = []
further_groups (g ∷ gs) = kinds.Mark Semicolon ∷ (spelled_group g ++ further_groups gs)

abbrev pub spelled_groups : List Group → List TokenKind
spelled_groups [] = []
spelled_groups (g ∷ gs) = spelled_group g ++ further_groups gs

-- groups in their parentheses, and a block
abbrev pub spelled_list : List Group → Bool → List TokenKind
spelled_list groups ended = kinds.Mark LeftParen ∷ (spelled_groups groups ++ spelled_end ended)

abbrev pub spelled_block : Stmts → List TokenKind
spelled_block body = kinds.Mark LeftBrace ∷ (spelled_stmts body ++ (kinds.Mark RightBrace ∷ []))

abbrev pub spelled_function : Function → List TokenKind
spelled_function f = kinds.Type f.returns ∷ kinds.Name f.name ∷ (spelled_list f.formals f.ended ++ spelled_block f.body)

abbrev pub spelled_functions : List Function → List TokenKind
spelled_functions [] = []
spelled_functions (f ∷ fs) = spelled_function f ++ spelled_functions fs

abbrev pub spelled_shader : Shader → List TokenKind
spelled_shader s = spelled_functions s.functions ++ (kinds.Kind s.kind ∷ kinds.Name s.name ∷ (spelled_list s.params s.ended ++ spelled_block s.body))
