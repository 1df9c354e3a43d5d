-- The registers that the code of a core tree makes at most, with one for each operand that is read where it stands, and how many rows they take.
use Rattle.std.proofs.Common.{ℕ, ◌+◌, Bool, cond, List, [], ◌∷◌, ◌++◌, length}
use Rattle.builtins.specs.declared.shape.Shape.TheVariants as shapes
use Rattle.builtins.specs.Values.{shape_of}
use Rattle.grid_code.specs.declared.code.Register.{Register}
use Rattle.grid_code.specs.declared.code.Register.TheVariants.{Uniform, Varying}
use Rattle.grid_code.specs.Names.{reg}
use Rattle.sl_meaning.specs.Core.{Slot, Expr, literal, read, apply, differ, sum, texture, call, Exprs, none, more, Arguments, no_arguments, argument, Stmt, declare, assign, block, test, repeat, lights, leave, again, Stmts, done, first, formals, after, after_all, is_uniform, stmts_uniform}
use Rattle.core_codegen.specs.Compile.{at, behind}
use Rattle.core_codegen.specs.Variables.{slot_at}

-- the registers of a frame's variables, from a register on
abbrev pub frame : ℕ → List Slot → List Register
frame b [] = []
frame b (s ∷ ss) = slot_at s b ∷ frame (b + 1) ss

-- the first varying registers of the assignments of a frame, which those with an operator share
abbrev pub shared : ℕ → List Register
shared t = Varying shapes.Number t ∷ Varying shapes.Triple t ∷ Varying shapes.Word t ∷ []

-- where all is uniform, no varying register is taken
abbrev pub shared_by : Stmts → List Slot → ℕ → List Register
shared_by s ss t = cond (stmts_uniform s ss) [] (shared t)

abbrev mutual
  pub made : Expr → List Slot → ℕ → List Register
  made (literal v) ss r = at (literal v) ss r ∷ []
  made (read x) ss r = at (read x) ss r ∷ []
  made (apply op args) ss r = made_exprs args ss r ++ at (apply op args) ss r ∷ []
  made (differ d e) ss r = made e ss r ++ at (differ d e) ss r ∷ []
  made (sum s args) ss r = made_exprs args ss r ++ at (sum s args) ss r ∷ []
  made (texture k args) ss r = made_exprs args ss r ++ at (texture k args) ss r ∷ []
  made (call args body kind e) ss r =
      made_args args ss r ++ (shared_by body (formals args) (behind (formals args) r body) ++ (made_all body (formals args) r (behind (formals args) r body) ++
      (made e (after_all body (formals args)) (r + length (after_all body (formals args))) ++ at (call args body kind e) ss r ∷ [])))

  pub made_exprs : Exprs → List Slot → ℕ → List Register
  made_exprs none ss r = []
  made_exprs (more e rest) ss r = made e ss r ++ made_exprs rest ss (r + 1)

  pub made_args : Arguments → List Slot → ℕ → List Register
  made_args no_arguments ss r = []
  made_args (argument u kind e rest) ss r = made e ss r ++ (reg u (shape_of kind) r ∷ made_args rest ss (r + 1))

  -- of an operator on a variable and a value that is assigned, those of the value
  pub made_stmt : Stmt → List Slot → ℕ → ℕ → List Register
  made_stmt (declare u kind e) ss b t = made e ss (b + length ss) ++ reg u (shape_of kind) (b + length ss) ∷ []
  made_stmt (assign x kind (apply op (more (read y) (more e none)))) ss b t = made e ss (t + 1)
  made_stmt (assign x kind e) ss b t = made e ss t
  made_stmt (block s) ss b t = made_all s ss b t
  made_stmt (test q x y) ss b t = made q ss (b + length ss) ++ (made_all x ss b t ++ made_all y ss b t)
  made_stmt (repeat u q e s) ss b t = made q ss (b + length ss) ++ (made_all e ss b t ++ made_all s ss b t)
  made_stmt (lights w args s) ss b t = made_exprs args ss (b + length ss) ++ made_all s ss b t
  made_stmt leave ss b t = []
  made_stmt again ss b t = []

  pub made_all : Stmts → List Slot → ℕ → ℕ → List Register
  made_all done ss b t = []
  made_all (first s rest) ss b t = made_stmt s ss b t ++ made_all rest (after s ss) b t

-- rows of registers
abbrev pub rows_at : Register → ℕ
rows_at (Uniform s r) = 0
rows_at (Varying shapes.Triple r) = 3
rows_at (Varying s r) = 1

abbrev pub weight : List Register → ℕ
weight [] = 0
weight (q ∷ qs) = rows_at q + weight qs

-- at most as many for what is varying
abbrev pub three_unless : Bool → ℕ
three_unless u = cond u 0 3

abbrev mutual
  pub load : Expr → List Slot → ℕ
  load (literal v) ss = 0
  load (read x) ss = three_unless (is_uniform (read x) ss)
  load (apply op args) ss = load_exprs args ss + three_unless (is_uniform (apply op args) ss)
  load (differ d e) ss = load e ss + 3
  load (sum s args) ss = load_exprs args ss + 3
  load (texture k args) ss = load_exprs args ss + three_unless (is_uniform (texture k args) ss)
  load (call args body kind e) ss =
      load_args args ss + (cond (stmts_uniform body (formals args)) 0 5 + (load_all body (formals args) +
      (load e (after_all body (formals args)) + three_unless (is_uniform (call args body kind e) ss))))

  pub load_exprs : Exprs → List Slot → ℕ
  load_exprs none ss = 0
  load_exprs (more e rest) ss = load e ss + load_exprs rest ss

  pub load_args : Arguments → List Slot → ℕ
  load_args no_arguments ss = 0
  load_args (argument u kind e rest) ss = load e ss + (three_unless u + load_args rest ss)

  pub load_stmt : Stmt → List Slot → ℕ
  load_stmt (declare u kind e) ss = load e ss + three_unless u
  load_stmt (assign x kind (apply op (more (read y) (more e none)))) ss = load e ss
  load_stmt (assign x kind e) ss = load e ss
  load_stmt (block s) ss = load_all s ss
  load_stmt (test q x y) ss = load q ss + (load_all x ss + load_all y ss)
  load_stmt (repeat u q e s) ss = load q ss + (load_all e ss + load_all s ss)
  load_stmt (lights w args s) ss = load_exprs args ss + load_all s ss
  load_stmt leave ss = 0
  load_stmt again ss = 0

  pub load_all : Stmts → List Slot → ℕ
  load_all done ss = 0
  load_all (first s rest) ss = load_stmt s ss + load_all rest (after s ss)
