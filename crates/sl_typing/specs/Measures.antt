-- How great an untyped statement is, by which the recursion over it ends: expressions in it don't count. Which ones hold no other.
use Rattle.std.specs.Prelude.{ℕ, ◌+◌, Bool, true, false}
use Rattle.sl_ast.specs.Syntax.{Stmt, empty, leave, again, block, assign, give, declare, test, test_else, repeat, steps, lights, solar, Stmts, done, first}

abbrev mutual
  pub size_stmt : Stmt → ℕ
  size_stmt (empty line) = 1
  size_stmt (leave line) = 1
  size_stmt (again line) = 1
  size_stmt (block body line) = 1 + size_rows body
  size_stmt (assign a) = 1
  size_stmt (give e line) = 1
  size_stmt (declare class kind names line) = 1
  size_stmt (test e s line) = 1 + size_stmt s
  size_stmt (test_else e s r line) = 1 + (size_stmt s + size_stmt r)
  size_stmt (repeat e s line) = 1 + size_stmt s
  size_stmt (steps a e b s line) = 1 + size_stmt s
  size_stmt (lights word e c s line) = 1 + size_stmt s
  size_stmt (solar e f s line) = 1 + size_stmt s

  pub size_rows : Stmts → ℕ
  size_rows done = 1
  size_rows (first s rest) = 1 + (size_stmt s + size_rows rest)

abbrev pub is_plain : Stmt → Bool
is_plain (empty line) = true
is_plain (leave line) = true
is_plain (again line) = true
is_plain (block body line) = false
is_plain (assign a) = true
is_plain (give e line) = true
is_plain (declare class kind names line) = true
is_plain (test e s line) = false
is_plain (test_else e s r line) = false
is_plain (repeat e s line) = false
is_plain (steps a e b s line) = false
is_plain (lights word e c s line) = false
is_plain (solar e f s line) = false
