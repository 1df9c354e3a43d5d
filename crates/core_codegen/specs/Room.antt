-- For contracts of the emission alone: how many registers the code of a core tree takes at most, beside those of the variables in scope.
use Rattle.std.specs.Prelude.{ℕ, ◌+◌}
use Rattle.sl_meaning.specs.Core.{Expr, literal, read, apply, differ, sum, texture, call, Exprs, none, more, Arguments, no_arguments, argument, Stmt, declare, assign, block, test, repeat, lights, leave, again, Stmts, done, first}

-- a block takes what its statements take
abbrev mutual
  pub expr_room : Expr → ℕ
  expr_room (literal v) = 1
  expr_room (read x) = 1
  expr_room (apply op args) = 1 + exprs_room args
  expr_room (differ d e) = 1 + expr_room e
  expr_room (sum s args) = 1 + exprs_room args
  expr_room (texture k args) = 1 + exprs_room args
  expr_room (call args body kind e) = 1 + args_room args + all_room body + expr_room e

  pub exprs_room : Exprs → ℕ
  exprs_room none = 0
  exprs_room (more e rest) = 1 + expr_room e + exprs_room rest

  pub args_room : Arguments → ℕ
  args_room no_arguments = 0
  args_room (argument u kind e rest) = 1 + expr_room e + args_room rest

  pub stmt_room : Stmt → ℕ
  stmt_room (declare u kind e) = 1 + expr_room e
  stmt_room (assign x kind e) = expr_room e
  stmt_room (block s) = all_room s
  stmt_room (test t a b) = expr_room t + all_room a + all_room b
  stmt_room (repeat u t e s) = expr_room t + all_room e + all_room s
  stmt_room (lights w args s) = exprs_room args + all_room s
  stmt_room leave = 0
  stmt_room again = 0

  pub all_room : Stmts → ℕ
  all_room done = 0
  all_room (first s rest) = stmt_room s + all_room rest

-- as many registers as assignments take at most, from the first behind the variables of their frame on
abbrev mutual
  pub temps : Stmt → ℕ
  temps (declare u kind e) = 0
  temps (assign x kind e) = expr_room e
  temps (block s) = all_temps s
  temps (test t a b) = all_temps a + all_temps b
  temps (repeat u t e s) = all_temps e + all_temps s
  temps (lights w args s) = all_temps s
  temps leave = 0
  temps again = 0

  pub all_temps : Stmts → ℕ
  all_temps done = 0
  all_temps (first s rest) = temps s + all_temps rest
