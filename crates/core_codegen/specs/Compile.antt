-- For contracts and laws of the code alone, not the picture's definition: the code of a core tree, as its emission gives it, in a frame of variables from register b on. The value of an expression goes into register r, and
-- what it needs on the way into those from r on. What an assignment needs goes into those from register t on, behind all variables of the frame: so
-- a frame's assignments share their registers, however many variables stand in scope.
use Rattle.std.specs.Prelude.{◌≡◌, ℕ, ◌+◌, List, [], ◌∷◌, length}
use Rattle.sl_ast.specs.declared.kinds.SlType.{SlType}
use Rattle.sl_ast.specs.declared.operations.Difference.TheVariants as differences
use Rattle.builtins.specs.declared.shape.Shape.{Shape}
use Rattle.builtins.specs.declared.shape.Shape.TheVariants as shapes
use Rattle.builtins.specs.Values.{shape_of}
use Rattle.builtins.specs.Shapes.{shape, part_shape, shape_applied}
use Rattle.grid_code.specs.declared.code.Register.{Register}
use Rattle.grid_code.specs.declared.code.Source.TheVariants.{Constant, Copy, Into, Apply}
use Rattle.grid_code.specs.Names.{reg, first_free}
use Rattle.grid_code.specs.Code as c
use Rattle.grid_code.specs.Code.{Block, ◌then◌}
use Rattle.sl_ast.specs.declared.typed.Variable.TheVariants as variables
use Rattle.core_codegen.specs.Variables.{variable}
use Rattle.sl_meaning.specs.Core.{Slot, Expr, literal, read, apply, differ, sum, texture, call, Exprs, none, more, Arguments, no_arguments, argument, Stmt, declare, assign, block, test, repeat, lights, leave, again, Stmts, done, first, formals, after, after_all, is_uniform, kind_in}

-- the shape of an expression's value
abbrev mutual
  pub shape_in : Expr → List Slot → Shape
  shape_in (literal v) ss = shape v
  shape_in (read x) ss = shape_of (kind_in x ss)
  shape_in (apply op args) ss = shape_applied op (shapes_in args ss)
  shape_in (differ differences.CalculateNormal e) ss = shapes.Triple
  shape_in (differ d e) ss = part_shape (shape_in e ss)
  shape_in (sum s args) ss = shapes.Triple
  shape_in (texture k args) ss = shapes.Triple
  shape_in (call args body kind e) ss = shape_of kind

  pub shapes_in : Exprs → List Slot → List Shape
  shapes_in none ss = []
  shapes_in (more e rest) ss = shape_in e ss ∷ shapes_in rest ss

-- the register of an expression's value
abbrev pub at : Expr → List Slot → ℕ → Register
at e ss r = reg (is_uniform e ss) (shape_in e ss) r

-- the number of the register that holds an operand: a variable of the frame that begins at b is read where it stands, any other value has register r
abbrev pub place : Expr → ℕ → ℕ → ℕ
place (read (variables.Level k)) b r = b + k
place e b r = r

-- the register of an operand, and those of several, one behind another
abbrev pub operand_at : Expr → List Slot → ℕ → ℕ → Register
operand_at e ss b r = reg (is_uniform e ss) (shape_in e ss) (place e b r)

-- the registers of operands, one after another
abbrev pub all_at : Exprs → List Slot → ℕ → ℕ → List Register
all_at none ss b r = []
all_at (more e rest) ss b r = operand_at e ss b r ∷ all_at rest ss b (r + 1)

-- the code of an operand, of the code of its value: a variable of the frame needs none
abbrev pub operand_code : Expr → Block → Block
operand_code (read (variables.Level k)) code = c.end
operand_code e code = code

-- an expression's value is put into a register of its own
abbrev pub IsMade : Expr → Type 0
IsMade e = (b r : ℕ) (code : Block) → (place e b r ≡ r) × (operand_code e code ≡ code)

abbrev pub count : Exprs → ℕ
count none = 0
count (more e rest) = 1 + count rest

-- a value put where one of a type is wanted
abbrev pub into : Register → SlType → Register → Block
into to kind from = c.put to (Into (shape_of kind) from) c.end

-- how many variables statements declare, but for those of calls
abbrev mutual
  pub locals : Stmt → ℕ
  locals (declare u kind e) = 1
  locals (assign x kind e) = 0
  locals (block s) = all_locals s
  locals (test t x y) = all_locals x + all_locals y
  locals (repeat u t e s) = all_locals e + all_locals s
  locals (lights w args s) = all_locals s
  locals leave = 0
  locals again = 0

  pub all_locals : Stmts → ℕ
  all_locals done = 0
  all_locals (first s rest) = locals s + all_locals rest

-- the first register behind all variables of a frame that begins at b with these in scope
abbrev pub behind : List Slot → ℕ → Stmts → ℕ
behind ss b s = b + length ss + all_locals s

abbrev mutual
  pub expr_code : Expr → List Slot → ℕ → ℕ → Block
  expr_code (literal v) ss b r = c.put (at (literal v) ss r) (Constant v) c.end
  expr_code (read x) ss b r = c.put (at (read x) ss r) (Copy (variable ss b x)) c.end
  expr_code (apply op args) ss b r = exprs_code args ss b r then c.put (at (apply op args) ss r) (Apply op (all_at args ss b r)) c.end
  expr_code (differ d e) ss b r = expr_code e ss b r then c.differ (at (differ d e) ss r) d (at e ss r) c.end
  expr_code (sum s args) ss b r = exprs_code args ss b r then c.sum (at (sum s args) ss r) s (all_at args ss b r) c.end
  expr_code (texture k args) ss b r = exprs_code args ss b r then c.texture (at (texture k args) ss r) k (all_at args ss b r) c.end
  expr_code (call args body kind e) ss b r =
      args_code args ss b r then (all_code body (formals args) r (behind (formals args) r body) then
      (expr_code e (after_all body (formals args)) r (r + length (after_all body (formals args))) then
      into (at (call args body kind e) ss r) kind (at e (after_all body (formals args)) (r + length (after_all body (formals args))))))

  pub exprs_code : Exprs → List Slot → ℕ → ℕ → Block
  exprs_code none ss b r = c.end
  exprs_code (more e rest) ss b r = operand_code e (expr_code e ss b r) then exprs_code rest ss b (r + 1)

  -- the arguments are put where the variables of the function's frame are
  pub args_code : Arguments → List Slot → ℕ → ℕ → Block
  args_code no_arguments ss b r = c.end
  args_code (argument u kind e rest) ss b r = expr_code e ss b r then (into (reg u (shape_of kind) r) kind (at e ss r) then args_code rest ss b (r + 1))

  pub stmt_code : Stmt → List Slot → ℕ → ℕ → Block
  stmt_code (declare u kind e) ss b t = expr_code e ss b (b + length ss) then into (reg u (shape_of kind) (b + length ss)) kind (at e ss (b + length ss))
  stmt_code (assign x kind e) ss b t = expr_code e ss b t then into (variable ss b x) kind (at e ss t)
  stmt_code (block s) ss b t = all_code s ss b t
  stmt_code (test q x y) ss b t = expr_code q ss b (b + length ss) then c.branch (at q ss (b + length ss)) (all_code x ss b t) (all_code y ss b t) c.end
  stmt_code (repeat u q e s) ss b t = c.loops u (expr_code q ss b (b + length ss)) (at q ss (b + length ss)) (all_code e ss b t) (all_code s ss b t) c.end
  stmt_code (lights w args s) ss b t = exprs_code args ss b (b + length ss) then c.lights w (all_at args ss b (b + length ss)) (all_code s ss b t) c.end
  stmt_code leave ss b t = c.breaks c.end
  stmt_code again ss b t = c.continues c.end

  pub all_code : Stmts → List Slot → ℕ → ℕ → Block
  all_code done ss b t = c.end
  all_code (first s rest) ss b t = stmt_code s ss b t then all_code rest (after s ss) b t

-- the code of a shader's body, whose parameters are in scope
abbrev pub shader_code : Stmts → List Slot → Block
shader_code body ss = all_code body ss first_free (behind ss first_free body)
