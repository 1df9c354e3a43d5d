-- How many levels are open at once while a tree's text is read. Each statement, each expression, each prefix operator
-- and each type before a value opens one; operators of a chain, parentheses and braces open none.
use Rattle.std.specs.Prelude.{ℕ, ◌+◌, max, List, [], ◌∷◌, Option, Some, None}
use Rattle.sl_ast.specs.Syntax.{Expr, number, string, name, call, paren, triple, typed, prefixed, chain, choice, Exprs, none, more, Links, end, link, Assignment, Declared, Stmt, empty, leave, again, block, assign, give, declare, test, test_else, repeat, steps, lights, solar, Stmts, done, first, Group, Function}

-- in an expression, beside the level that it opens itself
abbrev mutual
  pub within : Expr → ℕ
  within (number text line) = 0
  within (string text line) = 0
  within (name text line) = 0
  within (call text args line) = within_args args
  within (paren e line) = 1 + within e
  within (triple kind space x y z line) = 1 + max (1 + within x) (max (1 + within y) (1 + within z))
  within (typed kind space e line) = 1 + within e
  within (prefixed operator e line) = 1 + within e
  within (chain row e rest) = max (within e) (within_links rest)
  within (choice t e f line) = max (within t) (max (1 + within e) (1 + within f))

  pub within_args : Exprs → ℕ
  within_args none = 0
  within_args (more e rest) = max (1 + within e) (within_args rest)

  pub within_links : Links → ℕ
  within_links end = 0
  within_links (link operator line e rest) = max (within e) (within_links rest)

-- by an expression
abbrev pub levels_of : Expr → ℕ
levels_of e = 1 + within e

abbrev pub levels_where : Option Expr → ℕ
levels_where None = 0
levels_where (Some e) = levels_of e

abbrev pub levels_set : Option Assignment → ℕ
levels_set None = 0
levels_set (Some a) = levels_of a.value

abbrev pub levels_cone : Option (Expr × Expr) → ℕ
levels_cone None = 0
levels_cone (Some c) = max (levels_of c.0) (levels_of c.1)

abbrev pub levels_names : List Declared → ℕ
levels_names [] = 0
levels_names (d ∷ ds) = max (levels_where d.value) (levels_names ds)

abbrev mutual
  -- by a statement
  pub levels_stmt : Stmt → ℕ
  levels_stmt (empty line) = 1
  levels_stmt (leave line) = 1
  levels_stmt (again line) = 1
  levels_stmt (block body line) = 1 + levels_stmts body
  levels_stmt (assign a) = 1 + levels_of a.value
  levels_stmt (give e line) = 1 + levels_of e
  levels_stmt (declare class kind names line) = 1 + levels_names names
  levels_stmt (test e s line) = 1 + max (levels_of e) (levels_stmt s)
  levels_stmt (test_else e s r line) = 1 + max (levels_of e) (max (levels_stmt s) (levels_stmt r))
  levels_stmt (repeat e s line) = 1 + max (levels_of e) (levels_stmt s)
  levels_stmt (steps a e b s line) = 1 + max (levels_set a) (max (levels_of e) (max (levels_set b) (levels_stmt s)))
  levels_stmt (lights word e c s line) = 1 + max (levels_of e) (max (levels_cone c) (levels_stmt s))
  levels_stmt (solar e f s line) = 1 + max (levels_of e) (max (levels_of f) (levels_stmt s))

  pub levels_stmts : Stmts → ℕ
  levels_stmts done = 0
  levels_stmts (first s rest) = max (levels_stmt s) (levels_stmts rest)

abbrev pub levels_groups : List Group → ℕ
levels_groups [] = 0
levels_groups (g ∷ gs) = max (levels_names g.names) (levels_groups gs)

abbrev pub levels_function : Function → ℕ
levels_function f = max (levels_groups f.formals) (levels_stmts f.body)

abbrev pub levels_functions : List Function → ℕ
levels_functions [] = 0
levels_functions (f ∷ fs) = max (levels_function f) (levels_functions fs)

-- by the parts of a file
abbrev pub levels_file : List Function → List Group → Stmts → ℕ
levels_file functions params body = max (levels_functions functions) (max (levels_groups params) (levels_stmts body))
