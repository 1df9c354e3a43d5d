-- In a settled tree each variable is in scope.
use Rattle.std.specs.Prelude.{Bool, true, false, List}
use Rattle.sl_meaning.specs.Core.{Slot, Expr, literal, read, apply, differ, sum, texture, call, Exprs, none, more, Arguments, no_arguments, argument, Stmt, declare, assign, block, test, repeat, lights, leave, again, Stmts, done, first, formals, after, after_all, is_uniform}
use Rattle.core_codegen.specs.Fine.{StaysAll, IsStep, FineExpr, FineExprs, FineArgs, FineStmt, FineAll, When, GridExpr, GridExprs, GridArgs, GridStmt, GridAll}
use Rattle.core_codegen.specs.Sizes.{ScopedExpr, ScopedExprs, ScopedArgs, ScopedStmt, ScopedAll}
use Rattle.std.specs.Prelude.{◌≡◌}

mutual
  fine_expr : (e : Expr) (ss : List Slot) → FineExpr e ss → ScopedExpr e ss
  fine_expr (literal v) ss f = tt
  fine_expr (read x) ss f = f
  fine_expr (apply op args) ss f = fine_exprs args ss f
  fine_expr (differ d e) ss f = absurd f
  fine_expr (sum s args) ss f = fine_exprs args ss f
  fine_expr (texture k args) ss f = absurd f
  fine_expr (call args body kind e) ss f = (fine_args args ss f.0, (fine_all body (formals args) f.1.0, fine_expr e (after_all body (formals args)) f.1.1.1))

  fine_exprs : (es : Exprs) (ss : List Slot) → FineExprs es ss → ScopedExprs es ss
  fine_exprs none ss f = tt
  fine_exprs (more e rest) ss f = (fine_expr e ss f.0, fine_exprs rest ss f.1)

  fine_args : (es : Arguments) (ss : List Slot) → FineArgs es ss → ScopedArgs es ss
  fine_args no_arguments ss f = tt
  fine_args (argument u kind e rest) ss f = (fine_expr e ss f.0, fine_args rest ss f.1.1)

  fine_stmt : (s : Stmt) (ss : List Slot) → FineStmt s ss → ScopedStmt s ss
  fine_stmt (declare u kind e) ss f = fine_expr e ss f.0
  fine_stmt (assign x kind e) ss f = (fine_expr e ss f.0, f.1.0)
  fine_stmt (block s) ss f = fine_all s ss f
  fine_stmt (test t a b) ss f = (fine_expr t ss f.0, (fine_all a ss f.1.0, fine_all b ss f.1.1))
  fine_stmt (repeat u t e s) ss f = (fine_expr t ss f.1.0, (fine_all e ss f.1.1.0.0, fine_all s ss f.1.1.1))
  fine_stmt (lights w args s) ss f = (fine_exprs args ss f.0, fine_all s ss f.1)
  fine_stmt leave ss f = tt
  fine_stmt again ss f = tt

  fine_all : (s : Stmts) (ss : List Slot) → FineAll s ss → ScopedAll s ss
  fine_all done ss f = tt
  fine_all (first s rest) ss f = (fine_stmt s ss f.0, fine_all rest (after s ss) f.1)

either_way : (b : Bool) (P Q R : Type 0) → When b P Q → (P → R) → (Q → R) → R
either_way true P Q R p f g = f p
either_way false P Q R q f g = g q

mutual
  grid_expr : (e : Expr) (ss : List Slot) → GridExpr e ss → ScopedExpr e ss
  grid_expr (literal v) ss f = tt
  grid_expr (read x) ss f = f
  grid_expr (apply op args) ss f = grid_exprs args ss f
  grid_expr (differ d e) ss f = grid_expr e ss f
  grid_expr (sum s args) ss f = grid_exprs args ss f
  grid_expr (texture k args) ss f = grid_exprs args ss f
  grid_expr (call args body kind e) ss f = (grid_args args ss f.0, (grid_all body (formals args) f.1.0, grid_expr e (after_all body (formals args)) f.1.1.1))

  grid_exprs : (es : Exprs) (ss : List Slot) → GridExprs es ss → ScopedExprs es ss
  grid_exprs none ss f = tt
  grid_exprs (more e rest) ss f = (grid_expr e ss f.0, grid_exprs rest ss f.1)

  grid_args : (es : Arguments) (ss : List Slot) → GridArgs es ss → ScopedArgs es ss
  grid_args no_arguments ss f = tt
  grid_args (argument u kind e rest) ss f = (grid_expr e ss f.0, grid_args rest ss f.1.1)

  grid_stmt : (s : Stmt) (ss : List Slot) → GridStmt s ss → ScopedStmt s ss
  grid_stmt (declare u kind e) ss f = grid_expr e ss f.0
  grid_stmt (assign x kind e) ss f = (grid_expr e ss f.0, f.1.0)
  grid_stmt (block s) ss f = grid_all s ss f
  grid_stmt (test t a b) ss f = (
    grid_expr t ss f.0,
    either_way (is_uniform t ss) (GridAll a ss × GridAll b ss) ((FineAll a ss × StaysAll a) × (FineAll b ss × StaysAll b)) (ScopedAll a ss × ScopedAll b ss) f.1
        (λ p. (grid_all a ss p.0, grid_all b ss p.1)) (λ q. (fine_all a ss q.0.0, fine_all b ss q.1.0)),
  )
  grid_stmt (repeat u t e s) ss f =
      either_way u ((is_uniform t ss ≡ true) × (GridExpr t ss × ((GridAll e ss × IsStep e ss) × GridAll s ss))) (FineExpr t ss × ((FineAll e ss × IsStep e ss) × FineAll s ss)) (ScopedExpr t ss × (ScopedAll e ss × ScopedAll s ss)) f
      (λ p. (grid_expr t ss p.1.0, (grid_all e ss p.1.1.0.0, grid_all s ss p.1.1.1)))
      (λ q. (fine_expr t ss q.0, (fine_all e ss q.1.0.0, fine_all s ss q.1.1)))
  grid_stmt (lights w args s) ss f = (grid_exprs args ss f.0, fine_all s ss f.1.0)
  grid_stmt leave ss f = tt
  grid_stmt again ss f = tt

  pub grid_all : (s : Stmts) (ss : List Slot) → GridAll s ss → ScopedAll s ss
  grid_all done ss f = tt
  grid_all (first s rest) ss f = (grid_stmt s ss f.0, grid_all rest (after s ss) f.1)
