-- Where the parts of a core tree stand: in the kinds of shaders that have them, on one to three operands, and what leaves a loop in one. An
-- assigned value has the type of its variable.
use Rattle.std.specs.Prelude.{Bool, true, false, List, ◌≡◌}
use Rattle.sl_ast.specs.declared.kinds.SlKind.{SlKind}
use Rattle.sl_ast.specs.declared.typed.Variable.{Variable}
use Rattle.sl_ast.specs.declared.typed.Variable.TheVariants as variables
use Rattle.sl_ast.specs.Names.{reads, has_surface, is_surface, has_lights}
use Rattle.sl_meaning.specs.Core.{Slot, Expr, literal, read, apply, differ, sum, texture, call, Exprs, none, more, Arguments, no_arguments, argument, Stmt, declare, assign, block, test, repeat, lights, leave, again, Stmts, done, first, formals, after, kind_in}

-- at most three operands, one to three, and three
abbrev pub are_few : Exprs → Bool
are_few none = true
are_few (more a none) = true
are_few (more a (more b none)) = true
are_few (more a (more b (more c none))) = true
are_few _ = false

abbrev pub are_some : Exprs → Bool
are_some none = false
are_some es = are_few es

abbrev pub are_triple : Exprs → Bool
are_triple (more a (more b (more c none))) = true
are_triple _ = false

-- a predefined variable that such a shader reads
abbrev pub Reads : SlKind → Variable → Type 0
Reads k (variables.Predefined p) = reads k true p ≡ true
Reads k (variables.Level level) = Unit {0}

-- `l` says that it stands in a loop of its function
abbrev mutual
  pub PlacedExpr : SlKind → Expr → Type 0
  PlacedExpr k (literal v) = Unit {0}
  PlacedExpr k (read x) = Reads k x
  PlacedExpr k (apply op args) = (are_some args ≡ true) × PlacedExprs k args
  PlacedExpr k (differ d e) = (has_surface k ≡ true) × PlacedExpr k e
  PlacedExpr k (sum s args) = (is_surface k ≡ true) × ((are_few args ≡ true) × PlacedExprs k args)
  PlacedExpr k (texture m args) = (has_surface k ≡ true) × ((are_triple args ≡ true) × PlacedExprs k args)
  PlacedExpr k (call args body kind e) = PlacedArgs k args × (PlacedAll k false body (formals args) × PlacedExpr k e)

  pub PlacedExprs : SlKind → Exprs → Type 0
  PlacedExprs k none = Unit {0}
  PlacedExprs k (more e rest) = PlacedExpr k e × PlacedExprs k rest

  pub PlacedArgs : SlKind → Arguments → Type 0
  PlacedArgs k no_arguments = Unit {0}
  PlacedArgs k (argument u kind e rest) = PlacedExpr k e × PlacedArgs k rest

  pub PlacedStmt : SlKind → Bool → Stmt → List Slot → Type 0
  PlacedStmt k l (declare u kind e) ss = PlacedExpr k e
  PlacedStmt k l (assign x kind e) ss = PlacedExpr k e × (Reads k x × (kind_in x ss ≡ kind))
  PlacedStmt k l (block s) ss = PlacedAll k l s ss
  PlacedStmt k l (test t a b) ss = PlacedExpr k t × (PlacedAll k l a ss × PlacedAll k l b ss)
  PlacedStmt k l (repeat u t e s) ss = PlacedExpr k t × (PlacedAll k false e ss × PlacedAll k true s ss)
  PlacedStmt k l (lights w args s) ss = (has_lights k w ≡ true) × ((are_few args ≡ true) × (PlacedExprs k args × PlacedAll k l s ss))
  PlacedStmt k l leave ss = l ≡ true
  PlacedStmt k l again ss = l ≡ true

  pub PlacedAll : SlKind → Bool → Stmts → List Slot → Type 0
  PlacedAll k l done ss = Unit {0}
  PlacedAll k l (first s rest) ss = PlacedStmt k l s ss × PlacedAll k l rest (after s ss)
