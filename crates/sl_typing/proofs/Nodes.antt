-- What a block of the untyped tree shows, and how great the statements of a list are.
use Rattle.std.proofs.Common.{◌≡◌, ◌<◌, ℕ, zero, suc, List, [], ◌∷◌, length, map, get_or, ap, ◌∙◌, arith}
use Rattle.sl_ast.specs.Syntax as U
use Rattle.sl_ast.specs.SyntaxView.{stmt_of}
use Rattle.sl_ast.specs.declared.syntax.Stmt.{Stmt, Block}
use Rattle.sl_ast.proofs.Rows.{held_stmts}
use Rattle.sl_typing.specs.Measures.{size_stmt, size_rows}

pub block_is : (s : Stmt) (xs : List Stmt) (line : ℕ) → s ≡ Block xs line → stmt_of s ≡ U.block (U.stmts (map stmt_of xs)) line
block_is s xs line h = ap stmt_of h ∙ ap (λ x. U.block x line) (held_stmts xs)

pub small_stmt : (xs : List Stmt) (i : ℕ) (x : Stmt) → i < length xs → x ≡ get_or xs i x → size_stmt (stmt_of x) < size_rows (U.stmts (map stmt_of xs))
small_stmt [] i x low is = absurd (omega (arith, low))
small_stmt (y ∷ ys) zero x low is = let q = ap (λ e. size_stmt (stmt_of e)) is in omega arith
small_stmt (y ∷ ys) (suc i) x low is = omega (arith, small_stmt ys i x (omega (arith, low)) is)
