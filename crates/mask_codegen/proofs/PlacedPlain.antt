-- A core tree of a shader that is neither a surface's nor a displacement's has no differences and no look-ups.
use Rattle.std.proofs.Common.{◌≡◌, Bool, true, false, List}
use Rattle.sl_ast.specs.declared.kinds.SlKind.{SlKind}
use Rattle.sl_ast.specs.Names.{has_surface}
use Rattle.sl_meaning.specs.Core.{Slot, Expr, literal, read, apply, differ, sum, texture, call, Exprs, none, more, Arguments, no_arguments, argument, Stmt, declare, assign, block, test, repeat, lights, leave, again, Stmts, done, first, formals, after}
use Rattle.mask_codegen.proofs.CorePlaced.{PlacedExpr, PlacedExprs, PlacedArgs, PlacedStmt, PlacedAll}
use Rattle.mask_codegen.proofs.CorePlain.{PlainExpr, PlainExprs, PlainArgs, PlainStmt, PlainAll}

module _ (k : SlKind) (none_of : has_surface k ≡ false) where
  mutual
    pub plain_expr : (e : Expr) → PlacedExpr k e → PlainExpr e
    plain_expr (literal v) h = tt
    plain_expr (read x) h = tt
    plain_expr (apply op args) h = plain_exprs args h.1
    plain_expr (differ d e) h = let has = h.0 in absurd (cc (none_of, has))
    plain_expr (sum s args) h = plain_exprs args h.1.1
    plain_expr (texture m args) h = let has = h.0 in absurd (cc (none_of, has))
    plain_expr (call args body kind e) h = (plain_args args h.0, (plain_all body false (formals args) h.1.0, plain_expr e h.1.1))

    pub plain_exprs : (args : Exprs) → PlacedExprs k args → PlainExprs args
    plain_exprs none h = tt
    plain_exprs (more e rest) h = (plain_expr e h.0, plain_exprs rest h.1)

    pub plain_args : (args : Arguments) → PlacedArgs k args → PlainArgs args
    plain_args no_arguments h = tt
    plain_args (argument u kind e rest) h = (plain_expr e h.0, plain_args rest h.1)

    pub plain_stmt : (s : Stmt) (l : Bool) (ss : List Slot) → PlacedStmt k l s ss → PlainStmt s
    plain_stmt (declare u kind e) l ss h = plain_expr e h
    plain_stmt (assign x kind e) l ss h = plain_expr e h.0
    plain_stmt (block s) l ss h = plain_all s l ss h
    plain_stmt (test t a b) l ss h = (plain_expr t h.0, (plain_all a l ss h.1.0, plain_all b l ss h.1.1))
    plain_stmt (repeat u t e s) l ss h = (plain_expr t h.0, (plain_all e false ss h.1.0, plain_all s true ss h.1.1))
    plain_stmt (lights w args s) l ss h = (plain_exprs args h.1.1.0, plain_all s l ss h.1.1.1)
    plain_stmt leave l ss h = tt
    plain_stmt again l ss h = tt

    pub plain_all : (s : Stmts) (l : Bool) (ss : List Slot) → PlacedAll k l s ss → PlainAll s
    plain_all done l ss h = tt
    plain_all (first s rest) l ss h = (plain_stmt s l ss h.0, plain_all rest l (after s ss) h.1)
