-- For contracts and laws of the code alone, not the picture's definition: what a settled core tree keeps. Variables are in scope, uniform variables
-- take uniform values in uniform control alone, differences and look-ups stand in uniform control alone, loops are marked as their control is, and no break or
-- continue leaves what it can't leave.
use Rattle.std.specs.Prelude.{◌<◌, Bool, true, false, List, length, ◌≡◌}
use Rattle.sl_ast.specs.declared.typed.Variable.{Variable}
use Rattle.sl_ast.specs.declared.typed.Variable.TheVariants as variables
use Rattle.sl_meaning.specs.Core.{Slot, Expr, literal, read, apply, differ, sum, texture, call, Exprs, none, more, Arguments, no_arguments, argument, Stmt, declare, assign, block, test, repeat, lights, leave, again, Stmts, done, first, formals, after, after_all, is_uniform, class_in}

-- no break or continue leaves the statement
abbrev mutual
  pub Stays : Stmt → Type 0
  Stays (declare u kind e) = Unit {0}
  Stays (assign x kind e) = Unit {0}
  Stays (block s) = StaysAll s
  Stays (test t a b) = StaysAll a × StaysAll b
  Stays (repeat u t e s) = Unit {0}
  Stays (lights w args s) = StaysAll s
  Stays leave = ⊥
  Stays again = ⊥

  pub StaysAll : Stmts → Type 0
  StaysAll done = Unit {0}
  StaysAll (first s rest) = Stays s × StaysAll rest

-- nothing is declared in the step of a loop, and no break or continue leaves it
abbrev pub IsStep : Stmts → List Slot → Type 0
IsStep e ss = StaysAll e × (after_all e ss ≡ ss)

abbrev pub InScope : Variable → List Slot → Type 0
InScope (variables.Predefined p) ss = Unit {0}
InScope (variables.Level k) ss = k < length ss

-- a uniform variable takes a uniform value
abbrev pub Takes : Bool → Expr → List Slot → Type 0
Takes u e ss = u ≡ true → is_uniform e ss ≡ true

-- in varying control
abbrev mutual
  pub FineExpr : Expr → List Slot → Type 0
  FineExpr (literal v) ss = Unit {0}
  FineExpr (read x) ss = InScope x ss
  FineExpr (apply op args) ss = FineExprs args ss
  FineExpr (differ d e) ss = ⊥
  FineExpr (sum s args) ss = FineExprs args ss
  FineExpr (texture k args) ss = ⊥
  FineExpr (call args body kind e) ss = FineArgs args ss × (FineAll body (formals args) × (StaysAll body × FineExpr e (after_all body (formals args))))

  pub FineExprs : Exprs → List Slot → Type 0
  FineExprs none ss = Unit {0}
  FineExprs (more e rest) ss = FineExpr e ss × FineExprs rest ss

  pub FineArgs : Arguments → List Slot → Type 0
  FineArgs no_arguments ss = Unit {0}
  FineArgs (argument u kind e rest) ss = FineExpr e ss × (Takes u e ss × FineArgs rest ss)

  pub FineStmt : Stmt → List Slot → Type 0
  FineStmt (declare u kind e) ss = FineExpr e ss × Takes u e ss
  FineStmt (assign x kind e) ss = FineExpr e ss × (InScope x ss × (class_in x ss ≡ false))
  FineStmt (block s) ss = FineAll s ss
  FineStmt (test t a b) ss = FineExpr t ss × (FineAll a ss × FineAll b ss)
  FineStmt (repeat u t e s) ss = (u ≡ false) × (FineExpr t ss × ((FineAll e ss × IsStep e ss) × FineAll s ss))
  FineStmt (lights w args s) ss = FineExprs args ss × FineAll s ss
  FineStmt leave ss = Unit {0}
  FineStmt again ss = Unit {0}

  pub FineAll : Stmts → List Slot → Type 0
  FineAll done ss = Unit {0}
  FineAll (first s rest) ss = FineStmt s ss × FineAll rest (after s ss)

abbrev pub When : Bool → Type 0 → Type 0 → Type 0
When true p q = p
When false p q = q

-- in uniform control
abbrev mutual
  pub GridExpr : Expr → List Slot → Type 0
  GridExpr (literal v) ss = Unit {0}
  GridExpr (read x) ss = InScope x ss
  GridExpr (apply op args) ss = GridExprs args ss
  GridExpr (differ d e) ss = GridExpr e ss
  GridExpr (sum s args) ss = GridExprs args ss
  GridExpr (texture k args) ss = GridExprs args ss
  GridExpr (call args body kind e) ss = GridArgs args ss × (GridAll body (formals args) × (StaysAll body × GridExpr e (after_all body (formals args))))

  pub GridExprs : Exprs → List Slot → Type 0
  GridExprs none ss = Unit {0}
  GridExprs (more e rest) ss = GridExpr e ss × GridExprs rest ss

  pub GridArgs : Arguments → List Slot → Type 0
  GridArgs no_arguments ss = Unit {0}
  GridArgs (argument u kind e rest) ss = GridExpr e ss × (Takes u e ss × GridArgs rest ss)

  pub GridStmt : Stmt → List Slot → Type 0
  GridStmt (declare u kind e) ss = GridExpr e ss × Takes u e ss
  GridStmt (assign x kind e) ss = GridExpr e ss × (InScope x ss × Takes (class_in x ss) e ss)
  GridStmt (block s) ss = GridAll s ss
  GridStmt (test t a b) ss = GridExpr t ss × When (is_uniform t ss) (GridAll a ss × GridAll b ss) ((FineAll a ss × StaysAll a) × (FineAll b ss × StaysAll b))
  GridStmt (repeat u t e s) ss =
      When u ((is_uniform t ss ≡ true) × (GridExpr t ss × ((GridAll e ss × IsStep e ss) × GridAll s ss))) (FineExpr t ss × ((FineAll e ss × IsStep e ss) × FineAll s ss))
  GridStmt (lights w args s) ss = GridExprs args ss × (FineAll s ss × StaysAll s)
  GridStmt leave ss = Unit {0}
  GridStmt again ss = Unit {0}

  pub GridAll : Stmts → List Slot → Type 0
  GridAll done ss = Unit {0}
  GridAll (first s rest) ss = GridStmt s ss × GridAll rest (after s ss)
