-- A test that the numbers of all look-ups of a core tree pass, those of its code pass.
use Rattle.std.proofs.Common.{◌≡◌, ℕ, ◌+◌, Bool, true, List, length, refl}
use Rattle.grid_code.specs.Uses.{looks_within}
use Rattle.grid_code.proofs.Both.{both}
use Rattle.grid_code.proofs.ValidThen.{looks_then}
use Rattle.sl_meaning.specs.Core.{Slot, Expr, literal, read, apply, differ, sum, texture, call, Exprs, none, more, Arguments, no_arguments, argument, Stmt, declare, assign, block, test, repeat, lights, leave, again, Stmts, done, first, formals, after, after_all}
use Rattle.core_codegen.specs.Compile.{behind, operand_code, expr_code, exprs_code, args_code, stmt_code, all_code, shader_code}
use Rattle.core_codegen.proofs.Operands.{of_operand}

abbrev mutual
  pub LooksExpr : (ℕ → Bool) → Expr → Type 0
  LooksExpr p (literal v) = Unit {0}
  LooksExpr p (read x) = Unit {0}
  LooksExpr p (apply op args) = LooksExprs p args
  LooksExpr p (differ d e) = LooksExpr p e
  LooksExpr p (sum s args) = LooksExprs p args
  LooksExpr p (texture k args) = (p k ≡ true) × LooksExprs p args
  LooksExpr p (call args body kind e) = LooksArgs p args × (LooksAll p body × LooksExpr p e)

  pub LooksExprs : (ℕ → Bool) → Exprs → Type 0
  LooksExprs p none = Unit {0}
  LooksExprs p (more e rest) = LooksExpr p e × LooksExprs p rest

  pub LooksArgs : (ℕ → Bool) → Arguments → Type 0
  LooksArgs p no_arguments = Unit {0}
  LooksArgs p (argument u kind e rest) = LooksExpr p e × LooksArgs p rest

  pub LooksStmt : (ℕ → Bool) → Stmt → Type 0
  LooksStmt p (declare u kind e) = LooksExpr p e
  LooksStmt p (assign x kind e) = LooksExpr p e
  LooksStmt p (block s) = LooksAll p s
  LooksStmt p (test t a b) = LooksExpr p t × (LooksAll p a × LooksAll p b)
  LooksStmt p (repeat u t e s) = LooksExpr p t × (LooksAll p e × LooksAll p s)
  LooksStmt p (lights w args s) = LooksExprs p args × LooksAll p s
  LooksStmt p leave = Unit {0}
  LooksStmt p again = Unit {0}

  pub LooksAll : (ℕ → Bool) → Stmts → Type 0
  LooksAll p done = Unit {0}
  LooksAll p (first s rest) = LooksStmt p s × LooksAll p rest

mutual
  expr_code_looks : (p : ℕ → Bool) (e : Expr) (ss : List Slot) (b r : ℕ) → LooksExpr p e → looks_within p (expr_code e ss b r) ≡ true
  expr_code_looks p (literal v) ss b r h = refl
  expr_code_looks p (read x) ss b r h = refl
  expr_code_looks p (apply op args) ss b r h = looks_then p (exprs_code args ss b r) _ (exprs_code_looks p args ss b r h) refl
  expr_code_looks p (differ d e) ss b r h = looks_then p (expr_code e ss b r) _ (expr_code_looks p e ss b r h) refl
  expr_code_looks p (sum s args) ss b r h = looks_then p (exprs_code args ss b r) _ (exprs_code_looks p args ss b r h) refl
  expr_code_looks p (texture k args) ss b r h = looks_then p (exprs_code args ss b r) _ (exprs_code_looks p args ss b r h.1) (both _ _ h.0 refl)
  expr_code_looks p (call args body kind e) ss b r h =
      let fs = formals args in
      let ss2 = after_all body fs in
      let t = behind fs r body in
      looks_then p (args_code args ss b r) _ (args_code_looks p args ss b r h.0)
      (looks_then p (all_code body fs r t) _ (all_code_looks p body fs r t h.1.0) (looks_then p (expr_code e ss2 r (r + length ss2)) _ (expr_code_looks p e ss2 r (r + length ss2) h.1.1) refl))

  exprs_code_looks : (p : ℕ → Bool) (es : Exprs) (ss : List Slot) (b r : ℕ) → LooksExprs p es → looks_within p (exprs_code es ss b r) ≡ true
  exprs_code_looks p none ss b r h = refl
  exprs_code_looks p (more e rest) ss b r h =
      looks_then p (operand_code e (expr_code e ss b r)) _
      (of_operand (λ z q y. looks_within p y ≡ true) e b r (expr_code e ss b r) (λ k. refl) (expr_code_looks p e ss b r h.0)) (exprs_code_looks p rest ss b (r + 1) h.1)

  args_code_looks : (p : ℕ → Bool) (es : Arguments) (ss : List Slot) (b r : ℕ) → LooksArgs p es → looks_within p (args_code es ss b r) ≡ true
  args_code_looks p no_arguments ss b r h = refl
  args_code_looks p (argument u kind e rest) ss b r h = looks_then p (expr_code e ss b r) _ (expr_code_looks p e ss b r h.0) (args_code_looks p rest ss b (r + 1) h.1)

  stmt_code_looks : (p : ℕ → Bool) (s : Stmt) (ss : List Slot) (b t : ℕ) → LooksStmt p s → looks_within p (stmt_code s ss b t) ≡ true
  stmt_code_looks p (declare u kind e) ss b t h = looks_then p (expr_code e ss b (b + length ss)) _ (expr_code_looks p e ss b (b + length ss) h) refl
  stmt_code_looks p (assign x kind e) ss b t h = looks_then p (expr_code e ss b t) _ (expr_code_looks p e ss b t h) refl
  stmt_code_looks p (block s) ss b t h = all_code_looks p s ss b t h
  stmt_code_looks p (test q x y) ss b t h =
      looks_then p (expr_code q ss b (b + length ss)) _ (expr_code_looks p q ss b (b + length ss) h.0)
      (both _ _ (all_code_looks p x ss b t h.1.0) (both _ _ (all_code_looks p y ss b t h.1.1) refl))
  stmt_code_looks p (repeat u q e s) ss b t h =
      both _ _ (expr_code_looks p q ss b (b + length ss) h.0) (both _ _ (all_code_looks p e ss b t h.1.0) (both _ _ (all_code_looks p s ss b t h.1.1) refl))
  stmt_code_looks p (lights w args s) ss b t h =
      looks_then p (exprs_code args ss b (b + length ss)) _ (exprs_code_looks p args ss b (b + length ss) h.0) (both _ _ (all_code_looks p s ss b t h.1) refl)
  stmt_code_looks p leave ss b t h = refl
  stmt_code_looks p again ss b t h = refl

  all_code_looks : (p : ℕ → Bool) (s : Stmts) (ss : List Slot) (b t : ℕ) → LooksAll p s → looks_within p (all_code s ss b t) ≡ true
  all_code_looks p done ss b t h = refl
  all_code_looks p (first s rest) ss b t h = looks_then p (stmt_code s ss b t) _ (stmt_code_looks p s ss b t h.0) (all_code_looks p rest (after s ss) b t h.1)

pub shader_code_looks : (p : ℕ → Bool) (body : Stmts) (ss : List Slot) → LooksAll p body → looks_within p (shader_code body ss) ≡ true
shader_code_looks p body ss h = all_code_looks p body ss _ _ h
