-- A core tree without differences and look-ups: no value at a point depends on another point.
use Rattle.sl_meaning.specs.Core.{Expr, literal, read, apply, differ, sum, texture, call, Exprs, none, more, Arguments, no_arguments, argument, Stmt, declare, assign, block, test, repeat, lights, leave, again, Stmts, done, first}

abbrev mutual
  pub PlainExpr : Expr → Type 0
  PlainExpr (literal v) = Unit {0}
  PlainExpr (read x) = Unit {0}
  PlainExpr (apply op args) = PlainExprs args
  PlainExpr (differ d e) = ⊥
  PlainExpr (texture k args) = ⊥
  PlainExpr (sum s args) = PlainExprs args
  PlainExpr (call args body kind e) = PlainArgs args × (PlainAll body × PlainExpr e)

  pub PlainExprs : Exprs → Type 0
  PlainExprs none = Unit {0}
  PlainExprs (more e rest) = PlainExpr e × PlainExprs rest

  pub PlainArgs : Arguments → Type 0
  PlainArgs no_arguments = Unit {0}
  PlainArgs (argument u kind e rest) = PlainExpr e × PlainArgs rest

  pub PlainStmt : Stmt → Type 0
  PlainStmt (declare u kind e) = PlainExpr e
  PlainStmt (assign x kind e) = PlainExpr e
  PlainStmt (block s) = PlainAll s
  PlainStmt (test t a b) = PlainExpr t × (PlainAll a × PlainAll b)
  PlainStmt (repeat u t e s) = PlainExpr t × (PlainAll e × PlainAll s)
  PlainStmt (lights w args s) = PlainExprs args × PlainAll s
  PlainStmt leave = Unit {0}
  PlainStmt again = Unit {0}

  pub PlainAll : Stmts → Type 0
  PlainAll done = Unit {0}
  PlainAll (first s rest) = PlainStmt s × PlainAll rest
