-- When a tree is one of the grammar: each operand binds tighter than its operator, so that the tree's tokens need no
-- parentheses beside those that the tree holds.
use Rattle.std.specs.Prelude.{◌≡◌, ◌≤◌, ◌<◌, ℕ, ◌+◌, Bool, true, false, List, [], ◌∷◌, length, Option, Some, None}
use Rattle.sl_ast.specs.Syntax.{Expr, number, string, name, call, paren, triple, typed, prefixed, chain, choice, Exprs, none, more, Links, end, link, Assignment, Declared, Stmt, empty, leave, again, block, assign, give, declare, test, test_else, repeat, steps, lights, solar, Stmts, done, first, Group, Function, Shader}
use Rattle.sl_ast.specs.declared.kinds.Row.{Row}
use Rattle.sl_lexer.specs.declared.token.TokenKind.{TokenKind}
use Rattle.sl_lexer.specs.declared.token.TokenKind.TheVariants as kinds
use Rattle.sl_lexer.specs.declared.token.Mark.TheVariants.{LeftParen, Question}
use Rattle.sl_expression_grammar.specs.Expressions.{row_of, most_links}
use Rattle.sl_expression_grammar.specs.Rows.{rows_from}
use Rattle.sl_parser.specs.declared.declarations.Valued.{Valued}
use Rattle.sl_parser.specs.declared.declarations.Valued.TheVariants.{Always, Never, Freely}

-- how loosely an expression binds: what stands between operators, prefix operators, the rows from that of the dot product
-- up to that of `||`, and last the choice by `?`
abbrev pub looseness : Expr → ℕ
looseness (number text line) = 0
looseness (string text line) = 0
looseness (name text line) = 0
looseness (call text args line) = 0
looseness (paren e line) = 0
looseness (triple kind space x y z line) = 0
looseness (typed kind space e line) = 0
looseness (prefixed operator e line) = 1
looseness (chain row e rest) = 1 + rows_from row
looseness (choice t e f line) = 10

abbrev pub count : Links → ℕ
count end = 0
count (link operator line e rest) = 1 + count rest

-- a chain has at least one operator, at most one on a row that does not repeat, and all of its row
abbrev mutual
  pub Grammatical : Expr → Type 0
  Grammatical (number text line) = Unit {0}
  Grammatical (string text line) = Unit {0}
  Grammatical (name text line) = Unit {0}
  Grammatical (call text args line) = GrammaticalArgs args
  Grammatical (paren e line) = Grammatical e
  Grammatical (triple kind space x y z line) = Grammatical x × (Grammatical y × Grammatical z)
  Grammatical (typed kind space e line) = (looseness e ≡ 0) × Grammatical e
  Grammatical (prefixed operator e line) = (looseness e ≤ 1) × Grammatical e
  Grammatical (chain row e rest) =
      ((looseness e ≤ rows_from row) × Grammatical e) × (((1 ≤ count rest) × (count rest ≤ most_links row (count rest))) × GrammaticalLinks row rest)
  Grammatical (choice t e f line) = ((looseness t ≤ 9) × Grammatical t) × (Grammatical e × Grammatical f)

  pub GrammaticalArgs : Exprs → Type 0
  GrammaticalArgs none = Unit {0}
  GrammaticalArgs (more e rest) = Grammatical e × GrammaticalArgs rest

  pub GrammaticalLinks : Row → Links → Type 0
  GrammaticalLinks row end = Unit {0}
  GrammaticalLinks row (link operator line e rest) = (row_of operator ≡ row) × (((looseness e ≤ rows_from row) × Grammatical e) × GrammaticalLinks row rest)

-- the looseness from which on an expression goes on at such a token
abbrev pub goes_on_from : TokenKind → ℕ
goes_on_from (kinds.Number text) = 0
goes_on_from (kinds.Str text) = 0
goes_on_from (kinds.Name text) = 0
goes_on_from (kinds.Type kind) = 0
goes_on_from (kinds.Mark LeftParen) = 0
goes_on_from (kinds.Operator operator) = 1 + rows_from (row_of operator)
goes_on_from (kinds.Mark Question) = 10
goes_on_from _ = 11

-- an expression of that looseness ends before these tokens
abbrev pub Ends : ℕ → List TokenKind → Type 0
Ends loose [] = Unit {0}
Ends loose (k ∷ ks) = loose < goes_on_from k

-- the value of a declared name: a parameter has one, a formal has none, a local may have one
abbrev pub GrammaticalValue : Valued → Option Expr → Type 0
GrammaticalValue Always None = ⊥
GrammaticalValue Always (Some e) = Grammatical e
GrammaticalValue Never None = Unit {0}
GrammaticalValue Never (Some e) = ⊥
GrammaticalValue Freely None = Unit {0}
GrammaticalValue Freely (Some e) = Grammatical e

abbrev pub GrammaticalValues : Valued → List Declared → Type 0
GrammaticalValues valued [] = Unit {0}
GrammaticalValues valued (d ∷ ds) = GrammaticalValue valued d.value × GrammaticalValues valued ds

-- at least one name is declared
abbrev pub GrammaticalNames : Valued → List Declared → Type 0
GrammaticalNames valued names = (1 ≤ length names) × GrammaticalValues valued names

abbrev pub GrammaticalSet : Option Assignment → Type 0
GrammaticalSet None = Unit {0}
GrammaticalSet (Some a) = Grammatical a.value

abbrev pub GrammaticalCone : Option (Expr × Expr) → Type 0
GrammaticalCone None = Unit {0}
GrammaticalCone (Some c) = Grammatical c.0 × Grammatical c.1

-- an `else` after the statement would belong to an `if` at its end
abbrev pub takes_else : Stmt → Bool
takes_else (test e s line) = true
takes_else (test_else e s r line) = takes_else r
takes_else (repeat e s line) = takes_else s
takes_else (steps a e b s line) = takes_else s
takes_else (lights word e c s line) = takes_else s
takes_else (solar e f s line) = takes_else s
takes_else _ = false

abbrev mutual
  pub GrammaticalStmt : Stmt → Type 0
  GrammaticalStmt (empty line) = Unit {0}
  GrammaticalStmt (leave line) = Unit {0}
  GrammaticalStmt (again line) = Unit {0}
  GrammaticalStmt (block body line) = GrammaticalStmts body
  GrammaticalStmt (assign a) = Grammatical a.value
  GrammaticalStmt (give e line) = Grammatical e
  GrammaticalStmt (declare class kind names line) = GrammaticalNames Freely names
  GrammaticalStmt (test e s line) = Grammatical e × GrammaticalStmt s
  GrammaticalStmt (test_else e s r line) = Grammatical e × (((takes_else s ≡ false) × GrammaticalStmt s) × GrammaticalStmt r)
  GrammaticalStmt (repeat e s line) = Grammatical e × GrammaticalStmt s
  GrammaticalStmt (steps a e b s line) = (GrammaticalSet a × (Grammatical e × GrammaticalSet b)) × GrammaticalStmt s
  GrammaticalStmt (lights word e c s line) = (Grammatical e × GrammaticalCone c) × GrammaticalStmt s
  GrammaticalStmt (solar e f s line) = (Grammatical e × Grammatical f) × GrammaticalStmt s

  pub GrammaticalStmts : Stmts → Type 0
  GrammaticalStmts done = Unit {0}
  GrammaticalStmts (first s rest) = GrammaticalStmt s × GrammaticalStmts rest

abbrev pub EachGrammatical : Valued → List Group → Type 0
EachGrammatical valued [] = Unit {0}
EachGrammatical valued (g ∷ gs) = GrammaticalNames valued g.names × EachGrammatical valued gs

-- a semicolon stands after a group alone
abbrev pub GrammaticalGroups : Valued → List Group → Bool → Type 0
GrammaticalGroups valued [] ended = ended ≡ false
GrammaticalGroups valued (g ∷ gs) ended = EachGrammatical valued (g ∷ gs)

abbrev pub GrammaticalFunctions : List Function → Type 0
GrammaticalFunctions [] = Unit {0}
GrammaticalFunctions (f ∷ fs) = (GrammaticalGroups Never f.formals f.ended × GrammaticalStmts f.body) × GrammaticalFunctions fs

abbrev pub GrammaticalShader : Shader → Type 0
GrammaticalShader s = GrammaticalFunctions s.functions × (GrammaticalGroups Always s.params s.ended × GrammaticalStmts s.body)
