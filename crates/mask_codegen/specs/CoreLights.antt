-- For contracts and laws of the code alone, not the picture's definition: whether a statement over lights stands in a core tree.
use Rattle.std.specs.Prelude.{Bool, true, false, ◌||◌}
use Rattle.sl_meaning.specs.Core.{Expr, literal, read, apply, differ, sum, texture, call, Exprs, none, more, Arguments, no_arguments, argument, Stmt, declare, assign, block, test, repeat, lights, leave, again, Stmts, done, first}

abbrev mutual
  pub lights_in : Expr → Bool
  lights_in (literal v) = false
  lights_in (read x) = false
  lights_in (apply op args) = lights_in_exprs args
  lights_in (differ d e) = lights_in e
  lights_in (sum s args) = lights_in_exprs args
  lights_in (texture k args) = lights_in_exprs args
  lights_in (call args body kind e) = lights_in_args args || (lights_in_all body || lights_in e)

  pub lights_in_exprs : Exprs → Bool
  lights_in_exprs none = false
  lights_in_exprs (more e rest) = lights_in e || lights_in_exprs rest

  pub lights_in_args : Arguments → Bool
  lights_in_args no_arguments = false
  lights_in_args (argument u kind e rest) = lights_in e || lights_in_args rest

  pub lights_in_stmt : Stmt → Bool
  lights_in_stmt (declare u kind e) = lights_in e
  lights_in_stmt (assign x kind e) = lights_in e
  lights_in_stmt (block s) = lights_in_all s
  lights_in_stmt (test t a b) = lights_in t || (lights_in_all a || lights_in_all b)
  lights_in_stmt (repeat u t e s) = lights_in t || (lights_in_all e || lights_in_all s)
  lights_in_stmt (lights word args s) = true
  lights_in_stmt leave = false
  lights_in_stmt again = false

  pub lights_in_all : Stmts → Bool
  lights_in_all done = false
  lights_in_all (first s rest) = lights_in_stmt s || lights_in_all rest
