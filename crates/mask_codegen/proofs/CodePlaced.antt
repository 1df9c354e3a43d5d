-- The code of a core tree whose parts stand where they may is placed as code has to be.
use Rattle.std.proofs.Common.{◌≡◌, ℕ, ◌+◌, Bool, true, false, List, length, refl, ap, ◌∙◌}
use Rattle.sl_ast.specs.declared.kinds.SlKind.{SlKind}
use Rattle.builtins.specs.declared.shape.Shape.{Shape}
use Rattle.builtins.specs.Values.{shape_of}
use Rattle.grid_code.specs.Names.{reg}
use Rattle.grid_code.specs.Code as c
use Rattle.grid_code.specs.Code.{Block}
use Rattle.grid_code.specs.Valid.{is_placed}
use Rattle.grid_code.proofs.Both.{both}
use Rattle.grid_code.proofs.ValidThen.{placed_then}
use Rattle.sl_meaning.specs.Core.{Slot, Expr, literal, read, apply, differ, sum, texture, call, Exprs, none, more, Arguments, no_arguments, argument, Stmt, declare, assign, block, test, repeat, lights, leave, again, Stmts, done, first, formals, after, after_all, is_uniform}
use Rattle.core_codegen.specs.Compile.{at, operand_code, shape_in, into, behind, expr_code, exprs_code, args_code, stmt_code, all_code}
use Rattle.core_codegen.specs.Variables.{variable}
use Rattle.core_codegen.specs.Fine.{StaysAll, FineExpr, FineExprs, FineArgs, FineStmt, FineAll, When, GridExpr, GridExprs, GridArgs, GridStmt, GridAll}
use Rattle.mask_codegen.proofs.CorePlaced.{PlacedExpr, PlacedExprs, PlacedArgs, PlacedStmt, PlacedAll}
use Rattle.mask_codegen.proofs.CodeNodes.{into_placed, literal_placed, read_placed, apply_placed, sum_placed, differ_placed, few_at, texture_placed}
use Rattle.core_codegen.proofs.Operands.{of_operand}
use Rattle.core_codegen.proofs.ValueRegisters.{shape_reg, shape_at, variable_shape}

never : (m : Bool) → false ≡ true → m ≡ true
never true h = refl
never false h = h

operand_placed : (k : SlKind) (m u : Bool) (e : Expr) (b r : ℕ) (code : Block) → is_placed k m u code ≡ true → is_placed k m u (operand_code e code) ≡ true
operand_placed k m u e b r code h = of_operand (λ z q y. is_placed k m u y ≡ true) e b r code (λ j. refl) h

-- in varying control; `m` says that the code stands in a loop where its statements stand in one
mutual
  pub expr_fine : (k : SlKind) (m : Bool) (e : Expr) (ss : List Slot) (b r : ℕ) → FineExpr e ss → PlacedExpr k e → is_placed k m false (expr_code e ss b r) ≡ true
  expr_fine k m (literal v) ss b r f p = literal_placed k m false v ss r
  expr_fine k m (read x) ss b r f p = read_placed k m false x ss b r
  expr_fine k m (apply op args) ss b r f p = placed_then k m false (exprs_code args ss b r) _ (exprs_fine k m args ss b r f p.1) (apply_placed k m false op args ss b r p.0)
  expr_fine k m (differ d e) ss b r f p = absurd f
  expr_fine k m (texture j args) ss b r f p = absurd f
  expr_fine k m (sum s args) ss b r f p = placed_then k m false (exprs_code args ss b r) _ (exprs_fine k m args ss b r f p.1.1) (sum_placed k m false s args ss b r p.0 p.1.0)
  expr_fine k m (call args body kind e) ss b r f p =
      let fs = formals args in
      let ss2 = after_all body fs in
      placed_then k m false (args_code args ss b r) _ (args_fine k m args ss b r f.0 p.0)
      (placed_then k m false (all_code body fs r (behind fs r body)) _ (all_fine k false m (never m) body fs r (behind fs r body) f.1.0 p.1.0)
      (placed_then k m false (expr_code e ss2 r (r + length ss2)) _ (expr_fine k m e ss2 r (r + length ss2) f.1.1.1 p.1.1)
      (into_placed k m false (at (call args body kind e) ss r) kind (at e ss2 (r + length ss2)) (shape_at (call args body kind e) ss r))))

  pub exprs_fine : (k : SlKind) (m : Bool) (es : Exprs) (ss : List Slot) (b r : ℕ) → FineExprs es ss → PlacedExprs k es → is_placed k m false (exprs_code es ss b r) ≡ true
  exprs_fine k m none ss b r f p = refl
  exprs_fine k m (more e rest) ss b r f p =
      placed_then k m false (operand_code e (expr_code e ss b r)) _ (operand_placed k m false e b r (expr_code e ss b r) (expr_fine k m e ss b r f.0 p.0)) (exprs_fine k m rest ss b (r + 1) f.1 p.1)

  pub args_fine : (k : SlKind) (m : Bool) (es : Arguments) (ss : List Slot) (b r : ℕ) → FineArgs es ss → PlacedArgs k es → is_placed k m false (args_code es ss b r) ≡ true
  args_fine k m no_arguments ss b r f p = refl
  args_fine k m (argument u kind e rest) ss b r f p =
      placed_then k m false (expr_code e ss b r) _ (expr_fine k m e ss b r f.0 p.0)
      (placed_then k m false (into (reg u (shape_of kind) r) kind (at e ss r)) (args_code rest ss b (r + 1)) (into_placed k m false (reg u (shape_of kind) r) kind (at e ss r) (shape_reg u (shape_of kind) r))
      (args_fine k m rest ss b (r + 1) f.1.1 p.1))

  pub stmt_fine : (k : SlKind) (l m : Bool) → (l ≡ true → m ≡ true) → (s : Stmt) (ss : List Slot) (b t : ℕ) → FineStmt s ss → PlacedStmt k l s ss → is_placed k m false (stmt_code s ss b t) ≡ true
  stmt_fine k l m w (declare u kind e) ss b t f p =
      let n = b + length ss in
      placed_then k m false (expr_code e ss b n) _ (expr_fine k m e ss b n f.0 p) (into_placed k m false (reg u (shape_of kind) n) kind (at e ss n) (shape_reg u (shape_of kind) n))
  stmt_fine k l m w (assign x kind e) ss b t f p =
      placed_then k m false (expr_code e ss b t) _ (expr_fine k m e ss b t f.0 p.0) (into_placed k m false (variable ss b x) kind (at e ss t) (variable_shape x ss b ∙ ap shape_of p.1.1))
  stmt_fine k l m w (block s) ss b t f p = all_fine k l m w s ss b t f p
  stmt_fine k l m w (test q x y) ss b t f p =
      let n = b + length ss in
      placed_then k m false (expr_code q ss b n) _ (expr_fine k m q ss b n f.0 p.0)
      (both _ _ (all_fine k l m w x ss b t f.1.0 p.1.0) (both _ _ (all_fine k l m w y ss b t f.1.1 p.1.1) refl))
  stmt_fine k l m w (repeat u q e s) ss b t f p =
      let n = b + length ss in
      both _ _ (expr_fine k false q ss b n f.1.0 p.0)
      (both _ _ (all_fine k false false (λ h. h) e ss b t f.1.1.0.0 p.1.0) (both _ _ (all_fine k true true (λ h. h) s ss b t f.1.1.1 p.1.1) refl))
  stmt_fine k l m w (lights over args s) ss b t f p =
      let n = b + length ss in
      placed_then k m false (exprs_code args ss b n) _ (exprs_fine k m args ss b n f.0 p.1.1.0)
      (both _ _ p.0 (both _ _ (few_at args ss b n p.1.0) (both _ _ (all_fine k l m w s ss b t f.1 p.1.1.1) refl)))
  stmt_fine k l m w leave ss b t f p = both _ _ (w p) refl
  stmt_fine k l m w again ss b t f p = both _ _ (w p) refl

  pub all_fine : (k : SlKind) (l m : Bool) → (l ≡ true → m ≡ true) → (s : Stmts) (ss : List Slot) (b t : ℕ) → FineAll s ss → PlacedAll k l s ss → is_placed k m false (all_code s ss b t) ≡ true
  all_fine k l m w done ss b t f p = refl
  all_fine k l m w (first s rest) ss b t f p =
      placed_then k m false (stmt_code s ss b t) _ (stmt_fine k l m w s ss b t f.0 p.0) (all_fine k l m w rest (after s ss) b t f.1 p.1)

-- of a condition of either class, in uniform control: its two blocks
branch_placed : (k : SlKind) (m u : Bool) (s : Shape) (r : ℕ) (x y : Block) → is_placed k m u x ≡ true → is_placed k m u y ≡ true → is_placed k m true (c.branch (reg u s r) x y c.end) ≡ true
branch_placed k m true s r x y hx hy = both _ _ hx (both _ _ hy refl)
branch_placed k m false s r x y hx hy = both _ _ hx (both _ _ hy refl)

parts_placed : (k : SlKind) (m u : Bool) (sh : Shape) (n : ℕ) (x y : Block) (P Q R S T W : Type 0) → When u (P × Q) ((R × S) × (T × W)) → (P → is_placed k m true x ≡ true) → (Q → is_placed k m true y ≡ true) →
    (R → is_placed k m false x ≡ true) → (T → is_placed k m false y ≡ true) → is_placed k m true (c.branch (reg u sh n) x y c.end) ≡ true
parts_placed k m true sh n x y P Q R S T W f hx hy gx gy = branch_placed k m true sh n x y (hx f.0) (hy f.1)
parts_placed k m false sh n x y P Q R S T W f hx hy gx gy = branch_placed k m false sh n x y (gx f.0.0) (gy f.1.0)

-- in uniform control
mutual
  pub expr_grid : (k : SlKind) (m : Bool) (e : Expr) (ss : List Slot) (b r : ℕ) → GridExpr e ss → PlacedExpr k e → is_placed k m true (expr_code e ss b r) ≡ true
  expr_grid k m (literal v) ss b r f p = literal_placed k m true v ss r
  expr_grid k m (read x) ss b r f p = read_placed k m true x ss b r
  expr_grid k m (apply op args) ss b r f p = placed_then k m true (exprs_code args ss b r) _ (exprs_grid k m args ss b r f p.1) (apply_placed k m true op args ss b r p.0)
  expr_grid k m (differ d e) ss b r f p = placed_then k m true (expr_code e ss b r) _ (expr_grid k m e ss b r f p.1) (differ_placed k m d e ss r p.0)
  expr_grid k m (sum s args) ss b r f p = placed_then k m true (exprs_code args ss b r) _ (exprs_grid k m args ss b r f p.1.1) (sum_placed k m true s args ss b r p.0 p.1.0)
  expr_grid k m (texture j args) ss b r f p = placed_then k m true (exprs_code args ss b r) _ (exprs_grid k m args ss b r f p.1.1) (texture_placed k m j args ss b r p.0 p.1.0)
  expr_grid k m (call args body kind e) ss b r f p =
      let fs = formals args in
      let ss2 = after_all body fs in
      placed_then k m true (args_code args ss b r) _ (args_grid k m args ss b r f.0 p.0)
      (placed_then k m true (all_code body fs r (behind fs r body)) _ (all_grid k false m (never m) body fs r (behind fs r body) f.1.0 p.1.0)
      (placed_then k m true (expr_code e ss2 r (r + length ss2)) _ (expr_grid k m e ss2 r (r + length ss2) f.1.1.1 p.1.1)
      (into_placed k m true (at (call args body kind e) ss r) kind (at e ss2 (r + length ss2)) (shape_at (call args body kind e) ss r))))

  pub exprs_grid : (k : SlKind) (m : Bool) (es : Exprs) (ss : List Slot) (b r : ℕ) → GridExprs es ss → PlacedExprs k es → is_placed k m true (exprs_code es ss b r) ≡ true
  exprs_grid k m none ss b r f p = refl
  exprs_grid k m (more e rest) ss b r f p =
      placed_then k m true (operand_code e (expr_code e ss b r)) _ (operand_placed k m true e b r (expr_code e ss b r) (expr_grid k m e ss b r f.0 p.0)) (exprs_grid k m rest ss b (r + 1) f.1 p.1)

  pub args_grid : (k : SlKind) (m : Bool) (es : Arguments) (ss : List Slot) (b r : ℕ) → GridArgs es ss → PlacedArgs k es → is_placed k m true (args_code es ss b r) ≡ true
  args_grid k m no_arguments ss b r f p = refl
  args_grid k m (argument u kind e rest) ss b r f p =
      placed_then k m true (expr_code e ss b r) _ (expr_grid k m e ss b r f.0 p.0)
      (placed_then k m true (into (reg u (shape_of kind) r) kind (at e ss r)) (args_code rest ss b (r + 1)) (into_placed k m true (reg u (shape_of kind) r) kind (at e ss r) (shape_reg u (shape_of kind) r))
      (args_grid k m rest ss b (r + 1) f.1.1 p.1))

  pub stmt_grid : (k : SlKind) (l m : Bool) → (l ≡ true → m ≡ true) → (s : Stmt) (ss : List Slot) (b t : ℕ) → GridStmt s ss → PlacedStmt k l s ss → is_placed k m true (stmt_code s ss b t) ≡ true
  stmt_grid k l m w (declare u kind e) ss b t f p =
      let n = b + length ss in
      placed_then k m true (expr_code e ss b n) _ (expr_grid k m e ss b n f.0 p) (into_placed k m true (reg u (shape_of kind) n) kind (at e ss n) (shape_reg u (shape_of kind) n))
  stmt_grid k l m w (assign x kind e) ss b t f p =
      placed_then k m true (expr_code e ss b t) _ (expr_grid k m e ss b t f.0 p.0) (into_placed k m true (variable ss b x) kind (at e ss t) (variable_shape x ss b ∙ ap shape_of p.1.1))
  stmt_grid k l m w (block s) ss b t f p = all_grid k l m w s ss b t f p
  stmt_grid k l m w (test q x y) ss b t f p =
      let n = b + length ss in
      placed_then k m true (expr_code q ss b n) _ (expr_grid k m q ss b n f.0 p.0) (parts_placed k m (is_uniform q ss) (shape_in q ss) n (all_code x ss b t) (all_code y ss b t) (GridAll x ss) (GridAll y ss) (FineAll x ss) (StaysAll x) (FineAll y ss) (StaysAll y) f.1
      (λ h. all_grid k l m w x ss b t h p.1.0) (λ h. all_grid k l m w y ss b t h p.1.1) (λ h. all_fine k l m w x ss b t h p.1.0) (λ h. all_fine k l m w y ss b t h p.1.1))
  stmt_grid k l m w (repeat true q e s) ss b t f p =
      let n = b + length ss in
      both _ _ (expr_grid k false q ss b n f.1.0 p.0)
      (both _ _ (all_grid k false false (λ h. h) e ss b t f.1.1.0.0 p.1.0) (both _ _ (all_grid k true true (λ h. h) s ss b t f.1.1.1 p.1.1) refl))
  stmt_grid k l m w (repeat false q e s) ss b t f p =
      let n = b + length ss in
      both _ _ (expr_fine k false q ss b n f.0 p.0)
      (both _ _ (all_fine k false false (λ h. h) e ss b t f.1.0.0 p.1.0) (both _ _ (all_fine k true true (λ h. h) s ss b t f.1.1 p.1.1) refl))
  stmt_grid k l m w (lights over args s) ss b t f p =
      let n = b + length ss in
      placed_then k m true (exprs_code args ss b n) _ (exprs_grid k m args ss b n f.0 p.1.1.0)
      (both _ _ p.0 (both _ _ (few_at args ss b n p.1.0) (both _ _ (all_fine k l m w s ss b t f.1.0 p.1.1.1) refl)))
  stmt_grid k l m w leave ss b t f p = both _ _ (w p) refl
  stmt_grid k l m w again ss b t f p = both _ _ (w p) refl

  pub all_grid : (k : SlKind) (l m : Bool) → (l ≡ true → m ≡ true) → (s : Stmts) (ss : List Slot) (b t : ℕ) → GridAll s ss → PlacedAll k l s ss → is_placed k m true (all_code s ss b t) ≡ true
  all_grid k l m w done ss b t f p = refl
  all_grid k l m w (first s rest) ss b t f p =
      placed_then k m true (stmt_code s ss b t) _ (stmt_grid k l m w s ss b t f.0 p.0) (all_grid k l m w rest (after s ss) b t f.1 p.1)
