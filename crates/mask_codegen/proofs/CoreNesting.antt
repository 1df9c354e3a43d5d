-- How deep the blocks of a core tree's code lie in one another.
use Rattle.std.specs.Prelude.{ℕ, ◌+◌, max}
use Rattle.sl_meaning.specs.Core.{Expr, literal, read, apply, differ, sum, texture, call, Exprs, none, more, Arguments, no_arguments, argument, Stmt, declare, assign, block, test, repeat, lights, leave, again, Stmts, done, first}

abbrev mutual
  pub expr_nesting : Expr → ℕ
  expr_nesting (literal v) = 0
  expr_nesting (read x) = 0
  expr_nesting (apply op args) = exprs_nesting args
  expr_nesting (differ d e) = expr_nesting e
  expr_nesting (sum s args) = exprs_nesting args
  expr_nesting (texture k args) = exprs_nesting args
  expr_nesting (call args body kind e) = max (args_nesting args) (max (all_nesting body) (expr_nesting e))

  pub exprs_nesting : Exprs → ℕ
  exprs_nesting none = 0
  exprs_nesting (more e rest) = max (expr_nesting e) (exprs_nesting rest)

  pub args_nesting : Arguments → ℕ
  args_nesting no_arguments = 0
  args_nesting (argument u kind e rest) = max (expr_nesting e) (args_nesting rest)

  pub stmt_nesting : Stmt → ℕ
  stmt_nesting (declare u kind e) = expr_nesting e
  stmt_nesting (assign x kind e) = expr_nesting e
  stmt_nesting (block s) = all_nesting s
  stmt_nesting (test t a b) = max (expr_nesting t) (1 + max (all_nesting a) (all_nesting b))
  stmt_nesting (repeat u t e s) = 1 + max (expr_nesting t) (max (all_nesting e) (all_nesting s))
  stmt_nesting (lights w args s) = max (exprs_nesting args) (1 + all_nesting s)
  stmt_nesting leave = 0
  stmt_nesting again = 0

  pub all_nesting : Stmts → ℕ
  all_nesting done = 0
  all_nesting (first s rest) = max (stmt_nesting s) (all_nesting rest)
