-- For contracts of the emission alone: scopes and sizes of a core tree.
use Rattle.std.specs.Prelude.{ℕ, ◌+◌, List}
use Rattle.sl_meaning.specs.Core.{Slot, Expr, literal, read, apply, differ, sum, texture, call, Exprs, none, more, Arguments, no_arguments, argument, Stmt, declare, assign, block, test, repeat, lights, leave, again, Stmts, done, first, formals, after, after_all}
use Rattle.core_codegen.specs.Fine.{InScope}

-- each variable is in scope
abbrev mutual
  pub ScopedExpr : Expr → List Slot → Type 0
  ScopedExpr (literal v) ss = Unit {0}
  ScopedExpr (read x) ss = InScope x ss
  ScopedExpr (apply op args) ss = ScopedExprs args ss
  ScopedExpr (differ d e) ss = ScopedExpr e ss
  ScopedExpr (sum s args) ss = ScopedExprs args ss
  ScopedExpr (texture k args) ss = ScopedExprs args ss
  ScopedExpr (call args body kind e) ss = ScopedArgs args ss × (ScopedAll body (formals args) × ScopedExpr e (after_all body (formals args)))

  pub ScopedExprs : Exprs → List Slot → Type 0
  ScopedExprs none ss = Unit {0}
  ScopedExprs (more e rest) ss = ScopedExpr e ss × ScopedExprs rest ss

  pub ScopedArgs : Arguments → List Slot → Type 0
  ScopedArgs no_arguments ss = Unit {0}
  ScopedArgs (argument u kind e rest) ss = ScopedExpr e ss × ScopedArgs rest ss

  pub ScopedStmt : Stmt → List Slot → Type 0
  ScopedStmt (declare u kind e) ss = ScopedExpr e ss
  ScopedStmt (assign x kind e) ss = ScopedExpr e ss × InScope x ss
  ScopedStmt (block s) ss = ScopedAll s ss
  ScopedStmt (test t a b) ss = ScopedExpr t ss × (ScopedAll a ss × ScopedAll b ss)
  ScopedStmt (repeat u t e s) ss = ScopedExpr t ss × (ScopedAll e ss × ScopedAll s ss)
  ScopedStmt (lights w args s) ss = ScopedExprs args ss × ScopedAll s ss
  ScopedStmt leave ss = Unit {0}
  ScopedStmt again ss = Unit {0}

  pub ScopedAll : Stmts → List Slot → Type 0
  ScopedAll done ss = Unit {0}
  ScopedAll (first s rest) ss = ScopedStmt s ss × ScopedAll rest (after s ss)

-- as many registers as a part takes at most
abbrev mutual
  pub expr_size : Expr → ℕ
  expr_size (literal v) = 1
  expr_size (read x) = 1
  expr_size (apply op args) = 1 + exprs_size args
  expr_size (differ d e) = 1 + expr_size e
  expr_size (sum s args) = 1 + exprs_size args
  expr_size (texture k args) = 1 + exprs_size args
  expr_size (call args body kind e) = 1 + args_size args + all_size body + expr_size e

  pub exprs_size : Exprs → ℕ
  exprs_size none = 0
  exprs_size (more e rest) = 1 + expr_size e + exprs_size rest

  pub args_size : Arguments → ℕ
  args_size no_arguments = 0
  args_size (argument u kind e rest) = 1 + expr_size e + args_size rest

  pub stmt_size : Stmt → ℕ
  stmt_size (declare u kind e) = 1 + expr_size e
  stmt_size (assign x kind e) = 1 + expr_size e
  stmt_size (block s) = 1 + all_size s
  stmt_size (test t a b) = 1 + expr_size t + all_size a + all_size b
  stmt_size (repeat u t e s) = 1 + expr_size t + all_size e + all_size s
  stmt_size (lights w args s) = 1 + exprs_size args + all_size s
  stmt_size leave = 1
  stmt_size again = 1

  pub all_size : Stmts → ℕ
  all_size done = 0
  all_size (first s rest) = 1 + stmt_size s + all_size rest
