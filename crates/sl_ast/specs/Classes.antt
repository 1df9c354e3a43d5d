-- Control classes: which expressions are uniform, and which statements stand in uniform control. `us` are the classes
-- of the variables in scope (`true` for uniform), and `u` says that control is uniform.
use Rattle.std.specs.Prelude.{Bool, true, false, ◌&&◌, List, [], ◌∷◌, ◌++◌, get_or}
use Rattle.sl_ast.specs.declared.operations.Operation.{Operation}
use Rattle.sl_ast.specs.declared.operations.Operation.TheVariants as operations
use Rattle.sl_ast.specs.declared.operations.Look.TheVariants as looks
use Rattle.sl_ast.specs.declared.kinds.Predefined.{Predefined}
use Rattle.sl_ast.specs.declared.kinds.Predefined.TheVariants as names
use Rattle.sl_ast.specs.declared.typed.Variable.{Variable}
use Rattle.sl_ast.specs.declared.typed.Variable.TheVariants as variables
use Rattle.sl_ast.specs.declared.typed.TreeFormal.{TreeFormal}
use Rattle.sl_ast.specs.Typed.{Expr, number, word, variable, apply, call, Exprs, none, more, Stmt, empty, leave, again, block, group, declare, start, assign, test, test_else, repeat, steps, lights, Stmts, done, first, Default, Local, Tree}

-- operations whose value is uniform where all that they are given is; that of any other is varying, since it reads a varying variable,
-- neighbours or lights
abbrev pub is_plain : Operation → Bool
is_plain (operations.Value operation) = true
is_plain (operations.Look looks.At) = true
is_plain (operations.Look looks.First) = true
is_plain _ = false

-- whether a predefined variable is uniform
abbrev pub is_uniform_name : Predefined → Bool
is_uniform_name names.E = true
is_uniform_name names.Du = true
is_uniform_name names.Dv = true
is_uniform_name names.Pi = true
is_uniform_name _ = false

-- whether a variable is uniform
abbrev pub class_of : Variable → List Bool → Bool
class_of (variables.Predefined name) us = is_uniform_name name
class_of (variables.Level level) us = get_or us level false

abbrev pub formal_classes : List TreeFormal → List Bool
formal_classes [] = []
formal_classes (f ∷ fs) = f.uniform ∷ formal_classes fs

abbrev pub local_classes : List Local → List Bool
local_classes [] = []
local_classes (l ∷ ls) = l.uniform ∷ local_classes ls

abbrev pub all_uniform : List Bool → Bool
all_uniform [] = true
all_uniform (u ∷ us) = u && all_uniform us

-- the classes of the variables in scope behind a statement, and behind a list of them
abbrev pub after : Stmt → List Bool → List Bool
after (declare uniform kind e p) us = us ++ uniform ∷ []
after (start uniform kind p) us = us ++ uniform ∷ []
after _ us = us

-- the classes of the variables in scope after statements
abbrev pub after_all : Stmts → List Bool → List Bool
after_all done us = us
after_all (first s rest) us = after_all rest (after s us)

-- nothing varying is contained: a call contains its arguments, its formals and its body
abbrev mutual
  pub is_uniform : Expr → List Bool → Bool
  is_uniform (number x p) us = true
  is_uniform (word x p) us = true
  is_uniform (variable x kind p) us = class_of x us
  is_uniform (apply operation args kind p) us = is_plain operation && are_uniform args us
  is_uniform (call args formals body returned value kind p) us =
      are_uniform args us && (all_uniform (formal_classes formals) && (stmts_uniform body (formal_classes formals) && is_uniform value (after_all body (formal_classes formals))))

  pub are_uniform : Exprs → List Bool → Bool
  are_uniform none us = true
  are_uniform (more e rest) us = is_uniform e us && are_uniform rest us

  pub stmt_uniform : Stmt → List Bool → Bool
  stmt_uniform (empty p) us = true
  stmt_uniform (leave p) us = true
  stmt_uniform (again p) us = true
  stmt_uniform (block body p) us = stmts_uniform body us
  stmt_uniform (group body) us = stmts_uniform body us
  stmt_uniform (declare uniform kind e p) us = uniform && is_uniform e us
  stmt_uniform (start uniform kind p) us = uniform
  stmt_uniform (assign x operator kind e p) us = class_of x us && is_uniform e us
  stmt_uniform (test e s p) us = is_uniform e us && stmt_uniform s us
  stmt_uniform (test_else e s r p) us = is_uniform e us && (stmt_uniform s us && stmt_uniform r us)
  stmt_uniform (repeat e s p) us = is_uniform e us && stmt_uniform s us
  stmt_uniform (steps a e b s p) us = stmts_uniform a us && (is_uniform e us && (stmts_uniform b us && stmt_uniform s us))
  stmt_uniform (lights over args s p) us = are_uniform args us && stmt_uniform s us

  pub stmts_uniform : Stmts → List Bool → Bool
  stmts_uniform done us = true
  stmts_uniform (first s rest) us = stmt_uniform s us && stmts_uniform rest (after s us)

-- each break and continue that leaves the statement stands in uniform control; those of a loop in it leave that loop
abbrev mutual
  pub leaves_together : Stmt → List Bool → Bool → Bool
  leaves_together (empty p) us u = true
  leaves_together (leave p) us u = u
  leaves_together (again p) us u = u
  leaves_together (block body p) us u = leave_together body us u
  leaves_together (group body) us u = leave_together body us u
  leaves_together (declare uniform kind e p) us u = true
  leaves_together (start uniform kind p) us u = true
  leaves_together (assign x operator kind e p) us u = true
  leaves_together (test e s p) us u = leaves_together s us (u && is_uniform e us)
  leaves_together (test_else e s r p) us u = leaves_together s us (u && is_uniform e us) && leaves_together r us (u && is_uniform e us)
  leaves_together (repeat e s p) us u = true
  leaves_together (steps a e b s p) us u = true
  leaves_together (lights over args s p) us u = leaves_together s us false

  pub leave_together : Stmts → List Bool → Bool → Bool
  leave_together done us u = true
  leave_together (first s rest) us u = leaves_together s us u && leave_together rest (after s us) u

-- a loop on that condition over that body, where control is `u`, is uniform: it stands in uniform control, its condition
-- is uniform, and no break or continue of it stands in varying control within it
abbrev pub is_uniform_loop : Expr → Stmt → List Bool → Bool → Bool
is_uniform_loop e s us u = u && (is_uniform e us && leaves_together s us true)

-- the class of each expression and the control of each statement, in the order of the nodes' numbers
abbrev mutual
  pub classes : Expr → List Bool → Bool → List Bool
  classes (number x p) us u = true ∷ []
  classes (word x p) us u = true ∷ []
  classes (variable x kind p) us u = class_of x us ∷ []
  classes (apply operation args kind p) us u = is_uniform (apply operation args kind p) us ∷ classes_args args us u
  classes (call args formals body returned value kind p) us u =
      is_uniform (call args formals body returned value kind p) us ∷ (classes_args args us u ++
      (classes_stmts body (formal_classes formals) u ++ (u ∷ classes value (after_all body (formal_classes formals)) u)))

  pub classes_args : Exprs → List Bool → Bool → List Bool
  classes_args none us u = []
  classes_args (more e rest) us u = classes e us u ++ classes_args rest us u

  pub classes_stmt : Stmt → List Bool → Bool → List Bool
  classes_stmt (empty p) us u = u ∷ []
  classes_stmt (leave p) us u = u ∷ []
  classes_stmt (again p) us u = u ∷ []
  classes_stmt (block body p) us u = u ∷ classes_stmts body us u
  classes_stmt (group body) us u = classes_stmts body us u
  classes_stmt (declare uniform kind e p) us u = u ∷ classes e us u
  classes_stmt (start uniform kind p) us u = u ∷ []
  classes_stmt (assign x operator kind e p) us u = u ∷ classes e us u
  classes_stmt (test e s p) us u = u ∷ (classes e us u ++ classes_stmt s us (u && is_uniform e us))
  classes_stmt (test_else e s r p) us u =
      u ∷ (classes e us u ++ (classes_stmt s us (u && is_uniform e us) ++ classes_stmt r us (u && is_uniform e us)))
  classes_stmt (repeat e s p) us u =
      u ∷ (classes e us (is_uniform_loop e s us u) ++ classes_stmt s us (is_uniform_loop e s us u))
  classes_stmt (steps a e b s p) us u =
      u ∷ (classes_stmts a us u ++ (classes e us (is_uniform_loop e s us u) ++
      (classes_stmts b us (is_uniform_loop e s us u) ++ classes_stmt s us (is_uniform_loop e s us u))))
  classes_stmt (lights over args s p) us u = u ∷ (classes_args args us u ++ classes_stmt s us false)

  pub classes_stmts : Stmts → List Bool → Bool → List Bool
  classes_stmts done us u = []
  classes_stmts (first s rest) us u = classes_stmt s us u ++ classes_stmts rest (after s us) u

-- a default sees no variable
abbrev pub classes_defaults : List Default → List Bool
classes_defaults [] = []
classes_defaults (d ∷ ds) = true ∷ (classes d.value [] true ++ classes_defaults ds)

-- the shader and its parameters stand in uniform control
abbrev pub classes_tree : Tree → List Bool
classes_tree t = true ∷ (classes_defaults t.defaults ++ classes_stmts t.body (local_classes t.params) true)
