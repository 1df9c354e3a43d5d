-- How great core trees are: by this their evaluation ends.
use Rattle.std.proofs.Common.{◌≡◌, ◌+◌, ◌<◌, ℕ, zero, suc, List, [], ◌∷◌, length, get_or, ap, arith}
use Rattle.sl_meaning.specs.Core.{Expr, literal, read, apply, differ, sum, texture, call, Exprs, none, more, Arguments, no_arguments, argument, Stmt, declare, assign, block, test, repeat, lights, leave, again, Stmts, done, first}
use Rattle.sl_meaning.specs.CoreView.{expr_of, exprs_of, args_of, stmt_of, stmts_of}
use Rattle.sl_meaning.specs.declared.core_tree.Argument.{Argument}
use Rattle.sl_meaning.specs.declared.core_tree.CoreExpr.{CoreExpr}
use Rattle.sl_meaning.specs.declared.core_tree.CoreLoop.{CoreLoop}
use Rattle.sl_meaning.specs.declared.core_tree.CoreStmt.{CoreStmt}

abbrev mutual
  pub expr_size : Expr → ℕ
  expr_size (literal v) = 1
  expr_size (read x) = 1
  expr_size (apply op args) = 1 + exprs_size args
  expr_size (differ d e) = 1 + expr_size e
  expr_size (sum s args) = 1 + exprs_size args
  expr_size (texture k args) = 1 + exprs_size args
  expr_size (call args body kind e) = 1 + (args_size args + (all_size body + expr_size e))

  pub exprs_size : Exprs → ℕ
  exprs_size none = 1
  exprs_size (more e rest) = 1 + (expr_size e + exprs_size rest)

  pub args_size : Arguments → ℕ
  args_size no_arguments = 1
  args_size (argument u kind e rest) = 1 + (expr_size e + args_size rest)

  pub stmt_size : Stmt → ℕ
  stmt_size (declare u kind e) = 1 + expr_size e
  stmt_size (assign x kind e) = 1 + expr_size e
  stmt_size (block s) = 1 + all_size s
  stmt_size (test t a b) = 1 + (expr_size t + (all_size a + all_size b))
  stmt_size (repeat u t step s) = 2 + (expr_size t + (all_size step + all_size s))
  stmt_size (lights which args s) = 1 + (exprs_size args + all_size s)
  stmt_size leave = 1
  stmt_size again = 1

  pub all_size : Stmts → ℕ
  all_size done = 1
  all_size (first s rest) = 1 + (stmt_size s + all_size rest)

-- a loop behind its statement
abbrev pub loop_size : CoreLoop → ℕ
loop_size l = 1 + (expr_size (expr_of l.test) + (all_size (stmts_of l.step) + all_size (stmts_of l.body)))

pub expr_smaller : (xs : List CoreExpr) (i : ℕ) (x : CoreExpr) → i < length xs → x ≡ get_or xs i x → expr_size (expr_of x) < exprs_size (exprs_of xs)
expr_smaller [] i x few is = absurd (omega (arith, few))
expr_smaller (y ∷ ys) zero x few is = let same = ap (λ z. expr_size (expr_of z)) is in omega (arith, same)
expr_smaller (y ∷ ys) (suc i) x few is = let next = expr_smaller ys i x (omega (arith, few)) is in omega (arith, next)

pub argument_smaller : (xs : List Argument) (i : ℕ) (x : Argument) → i < length xs → x ≡ get_or xs i x → expr_size (expr_of x.value) < args_size (args_of xs)
argument_smaller [] i x few is = absurd (omega (arith, few))
argument_smaller (y ∷ ys) zero x few is = let same = ap (λ z. expr_size (expr_of z.value)) is in omega (arith, same)
argument_smaller (y ∷ ys) (suc i) x few is = let next = argument_smaller ys i x (omega (arith, few)) is in omega (arith, next)

pub stmt_smaller : (xs : List CoreStmt) (i : ℕ) (x : CoreStmt) → i < length xs → x ≡ get_or xs i x → stmt_size (stmt_of x) < all_size (stmts_of xs)
stmt_smaller [] i x few is = absurd (omega (arith, few))
stmt_smaller (y ∷ ys) zero x few is = let same = ap (λ z. stmt_size (stmt_of z)) is in omega (arith, same)
stmt_smaller (y ∷ ys) (suc i) x few is = let next = stmt_smaller ys i x (omega (arith, few)) is in omega (arith, next)
