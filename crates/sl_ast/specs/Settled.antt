-- The faults of classes and control, in order of the text, where each call's body stands at its call: behind the called
-- name and before the arguments. `us` are the classes of the variables in scope.
use Rattle.std.specs.Prelude.{ℕ, Bool, true, false, ◌&&◌, ◌||◌, not, List, [], ◌∷◌, Result, Ok, Err, Option, Some, None, cond, ◌≡◌}
use Rattle.sl_ast.specs.declared.kinds.SlType.{SlType}
use Rattle.sl_ast.specs.declared.kinds.SlType.TheVariants as types
use Rattle.sl_ast.specs.declared.operations.Operation.{Operation}
use Rattle.sl_ast.specs.declared.operations.Operation.TheVariants as operations
use Rattle.sl_ast.specs.declared.operations.ValueOperation.TheVariants as ops
use Rattle.sl_ast.specs.declared.operations.Look.TheVariants as looks
use Rattle.sl_ast.specs.declared.kinds.LightStmt.{LightStmt}
use Rattle.sl_ast.specs.declared.kinds.LightStmt.TheVariants.{Illuminance, Illuminate, Solar}
use Rattle.sl_ast.specs.declared.kinds.ControlCode.{ControlCode}
use Rattle.sl_ast.specs.declared.kinds.ControlCode.TheVariants.{T3, T4, T5, T9, T11}
use Rattle.sl_ast.specs.declared.typed.TreeFormal.{TreeFormal}
use Rattle.sl_ast.specs.Typed.{Expr, number, word, variable, apply, call, Exprs, none, more, Stmt, empty, leave, again, block, group, declare, start, assign, test, test_else, repeat, steps, lights, Stmts, done, first, Default, Local, Tree}
use Rattle.sl_ast.specs.Classes.{class_of, formal_classes, local_classes, after, after_all, is_uniform, is_uniform_loop}

-- where something stands: in uniform control, in a loop, in an `illuminance`
pub record Spot : Type 0 where
  pub uniform : Bool
  pub looped : Bool
  pub inside : Bool

-- the first fault with its line; or whether an `illuminate` or `solar` has stood so far
abbrev pub Settles : Type 0
Settles = Result Bool (ControlCode × ℕ)

infixl 15 ◌then◌
abbrev pub ◌then◌ : Settles → (Bool → Settles) → Settles
(Ok lit) then next = next lit
(Err fault) then next = Err fault

abbrev pub unless : Bool → ControlCode → ℕ → Settles → Settles
unless wrong code line next = cond wrong (Err (code, line)) next

abbrev pub is_string : SlType → Bool
is_string types.Str = true
is_string _ = false

-- a string can only be uniform
abbrev pub is_varying_string : Bool → SlType → Bool
is_varying_string uniform kind = not uniform && is_string kind

-- the value at a point depends on neighbours
abbrev pub asks_neighbours : Operation → Bool
asks_neighbours (operations.Difference which) = true
asks_neighbours (operations.Look looks.At) = true
asks_neighbours (operations.Look looks.Here) = true
asks_neighbours _ = false

abbrev pub is_component : Operation → Bool
is_component (operations.Value ops.Comp) = true
is_component _ = false

-- the second operand is varying: the index of `comp`
abbrev pub first_varies : Exprs → List Bool → Bool
first_varies none us = false
first_varies (more e rest) us = not (is_uniform e us)

abbrev pub index_varies : Exprs → List Bool → Bool
index_varies none us = false
index_varies (more color rest) us = first_varies rest us

-- a varying value goes into a uniform variable
abbrev pub varies_into : Bool → Expr → List Bool → Bool
varies_into uniform e us = uniform && not (is_uniform e us)

-- a varying argument goes into a uniform formal
abbrev pub goes_wrong : Exprs → List TreeFormal → List Bool → Bool
goes_wrong none formals us = false
goes_wrong (more e rest) [] us = false
goes_wrong (more e rest) (f ∷ fs) us = varies_into f.uniform e us || goes_wrong rest fs us

abbrev pub settled_formals : List TreeFormal → Bool → Settles
settled_formals [] lit = Ok lit
settled_formals (f ∷ fs) lit = unless (is_varying_string f.uniform f.kind) T3 f.line (settled_formals fs lit)

-- the spot of what a branch or a loop in that control holds
abbrev pub in_control : Bool → Spot → Spot
in_control uniform c = record { uniform = uniform; looped = c.looped; inside = c.inside }

abbrev pub in_loop : Bool → Spot → Spot
in_loop uniform c = record { uniform = uniform; looped = true; inside = c.inside }

abbrev pub in_lights : LightStmt → Spot → Spot
in_lights Illuminance c = record { uniform = false; looped = c.looped; inside = true }
in_lights Illuminate c = in_control false c
in_lights Solar c = in_control false c

-- a statement over lights at its word: `illuminance` in another one, a second of the others or one in a loop
abbrev pub settled_word : LightStmt → ℕ → Spot → Bool → Settles
settled_word Illuminance line c lit = unless c.inside T11 line (Ok lit)
settled_word Illuminate line c lit = unless (lit || c.looped) T9 line (Ok true)
settled_word Solar line c lit = unless (lit || c.looped) T9 line (Ok true)

-- an operation, a declaration and an assignment at their names
abbrev pub settled_operation : Operation → Exprs → ℕ → List Bool → Spot → Bool → Settles
settled_operation operation args line us c lit =
    unless (is_component operation && index_varies args us) T3 line (unless (asks_neighbours operation && not c.uniform) T5 line (Ok lit))

abbrev pub settled_declare : Bool → SlType → Expr → ℕ → List Bool → Bool → Settles
settled_declare uniform kind e line us lit = unless (is_varying_string uniform kind || varies_into uniform e us) T3 line (Ok lit)

abbrev pub settled_set : Bool → Expr → ℕ → List Bool → Spot → Bool → Settles
settled_set uniform e line us c lit = unless (varies_into uniform e us) T3 line (unless (uniform && not c.uniform) T4 line (Ok lit))

abbrev mutual
  pub settled_expr : Expr → List Bool → Spot → Bool → Settles
  settled_expr (number x p) us c lit = Ok lit
  settled_expr (word x p) us c lit = Ok lit
  settled_expr (variable x kind p) us c lit = Ok lit
  settled_expr (apply operation args kind p) us c lit =
      settled_operation operation args p.line us c lit then settled_args args us c
  settled_expr (call args formals body returned value kind p) us c lit =
      unless (goes_wrong args formals us) T3 p.line
      (settled_formals formals lit then settled_stmts body (formal_classes formals) c
      then settled_expr value (after_all body (formal_classes formals)) c then settled_args args us c)

  pub settled_args : Exprs → List Bool → Spot → Bool → Settles
  settled_args none us c lit = Ok lit
  settled_args (more e rest) us c lit = settled_expr e us c lit then settled_args rest us c

  pub settled_stmt : Stmt → List Bool → Spot → Bool → Settles
  settled_stmt (empty p) us c lit = Ok lit
  settled_stmt (leave p) us c lit = Ok lit
  settled_stmt (again p) us c lit = Ok lit
  settled_stmt (block body p) us c lit = settled_stmts body us c lit
  settled_stmt (group body) us c lit = settled_stmts body us c lit
  settled_stmt (declare uniform kind e p) us c lit =
      settled_declare uniform kind e p.line us lit then settled_expr e us c
  settled_stmt (start uniform kind p) us c lit = unless (is_varying_string uniform kind) T3 p.line (Ok lit)
  settled_stmt (assign x operator kind e p) us c lit =
      settled_set (class_of x us) e p.line us c lit then settled_expr e us c
  settled_stmt (test e s p) us c lit = settled_expr e us c lit then settled_stmt s us (in_control (c.uniform && is_uniform e us) c)
  settled_stmt (test_else e s r p) us c lit =
      settled_expr e us c lit then settled_stmt s us (in_control (c.uniform && is_uniform e us) c) then settled_stmt r us (in_control (c.uniform && is_uniform e us) c)
  settled_stmt (repeat e s p) us c lit =
      settled_expr e us (in_loop (is_uniform_loop e s us c.uniform) c) lit then settled_stmt s us (in_loop (is_uniform_loop e s us c.uniform) c)
  settled_stmt (steps a e b s p) us c lit =
      settled_stmts a us c lit then settled_expr e us (in_loop (is_uniform_loop e s us c.uniform) c)
      then settled_stmts b us (in_loop (is_uniform_loop e s us c.uniform) c)
      then settled_stmt s us (in_loop (is_uniform_loop e s us c.uniform) c)
  settled_stmt (lights over args s p) us c lit =
      settled_word over p.line c lit then settled_args args us c then settled_stmt s us (in_lights over c)

  pub settled_stmts : Stmts → List Bool → Spot → Bool → Settles
  settled_stmts done us c lit = Ok lit
  settled_stmts (first s rest) us c lit = settled_stmt s us c lit then settled_stmts rest (after s us) c

abbrev pub outermost : Spot
outermost = record { uniform = true; looped = false; inside = false }

-- a default sees no variable, and is uniform whatever the parameter is
abbrev pub settled_default : Local → Default → Bool → Settles
settled_default l d lit =
    unless (is_varying_string l.uniform l.kind || not (is_uniform d.value [])) T3 d.place.line (settled_expr d.value [] outermost lit)

abbrev pub settled_defaults : List Default → List Local → Bool → Settles
settled_defaults [] ls lit = Ok lit
settled_defaults (d ∷ ds) [] lit = Ok lit
settled_defaults (d ∷ ds) (l ∷ ls) lit = settled_default l d lit then settled_defaults ds ls

-- the outcome for a whole tree: of its defaults, and then of its body
abbrev pub settles : Tree → Settles
settles t = settled_defaults t.defaults t.params false then settled_stmts t.body (local_classes t.params) outermost

abbrev pub fault_of : Settles → Option (ControlCode × ℕ)
fault_of (Ok lit) = None
fault_of (Err fault) = Some fault

-- the first fault of a tree with its line
abbrev pub unsettled : Tree → Option (ControlCode × ℕ)
unsettled t = fault_of (settles t)

-- no such fault stands in a tree
abbrev pub IsSettled : Tree → Type 0
IsSettled t = unsettled t ≡ None
