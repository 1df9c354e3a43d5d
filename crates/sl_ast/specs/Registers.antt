-- How many rows of registers a tree takes: one for each varying parameter, each varying local variable, the formals of
-- calls among them, each varying predefined variable of the shader's kind, and each varying expression.
use Rattle.std.specs.Prelude.{ℕ, ◌+◌, Bool, true, not, ◌&&◌, List, [], ◌∷◌, length, filter, cond, ◌≡◌, refl}
use Rattle.sl_ast.specs.declared.kinds.SlKind.{SlKind}
use Rattle.sl_ast.specs.declared.kinds.SlKind.TheVariants.{Surface, Displacement, Light, Volume}
use Rattle.sl_ast.specs.Typed.{Expr, number, word, variable, apply, call, Exprs, none, more, Stmt, empty, leave, again, block, group, declare, start, assign, test, test_else, repeat, steps, lights, Stmts, done, first, Default, Tree}
use Rattle.sl_ast.specs.declared.kinds.Predefined.{Predefined}
use Rattle.sl_ast.specs.declared.kinds.Predefined.TheVariants as names
use Rattle.sl_ast.specs.Names.{reads}
use Rattle.sl_ast.specs.Classes.{is_uniform_name, formal_classes, local_classes, after, after_all, is_uniform}

-- a row for what is varying
abbrev pub row_unless : Bool → ℕ
row_unless uniform = cond uniform 0 1

-- a row for each variable that varies
abbrev pub rows_of_classes : List Bool → ℕ
rows_of_classes [] = 0
rows_of_classes (u ∷ us) = row_unless u + rows_of_classes us

abbrev predefined : List Predefined
predefined =
    names.P ∷ names.N ∷ names.Ng ∷ names.I ∷ names.E ∷ names.U ∷ names.V ∷ names.Du ∷ names.Dv ∷ names.S ∷ names.T ∷
    names.Cs ∷ names.Os ∷ names.DPdu ∷ names.DPdv ∷ names.L ∷ names.Cl ∷ names.Ci ∷ names.Oi ∷ names.Ps ∷ names.Pi ∷ []

-- the varying variables that such a shader has somewhere
abbrev pub predefined_rows : SlKind → ℕ
predefined_rows kind = length (filter (λ name. reads kind true name && not (is_uniform_name name)) predefined)

-- P N Ng I u v s t Cs Os dPdu dPdv, L Cl, Ci Oi
abbrev surface_rows : predefined_rows Surface ≡ 16
surface_rows = refl

-- the first twelve of these
abbrev displacement_rows : predefined_rows Displacement ≡ 12
displacement_rows = refl

-- Ps, L, Cl
abbrev light_rows : predefined_rows Light ≡ 3
light_rows = refl

-- P I, Ci Oi
abbrev volume_rows : predefined_rows Volume ≡ 4
volume_rows = refl

abbrev mutual
  pub rows : Expr → List Bool → ℕ
  rows (number x p) us = 0
  rows (word x p) us = 0
  rows (variable x kind p) us = row_unless (is_uniform (variable x kind p) us)
  rows (apply operation args kind p) us = row_unless (is_uniform (apply operation args kind p) us) + rows_args args us
  rows (call args formals body returned value kind p) us =
      row_unless (is_uniform (call args formals body returned value kind p) us) + (rows_args args us + (rows_of_classes (formal_classes formals) +
      (rows_stmts body (formal_classes formals) + rows value (after_all body (formal_classes formals)))))

  pub rows_args : Exprs → List Bool → ℕ
  rows_args none us = 0
  rows_args (more e rest) us = rows e us + rows_args rest us

  pub rows_stmt : Stmt → List Bool → ℕ
  rows_stmt (empty p) us = 0
  rows_stmt (leave p) us = 0
  rows_stmt (again p) us = 0
  rows_stmt (block body p) us = rows_stmts body us
  rows_stmt (group body) us = rows_stmts body us
  rows_stmt (declare uniform kind e p) us = row_unless uniform + rows e us
  rows_stmt (start uniform kind p) us = row_unless uniform
  rows_stmt (assign x operator kind e p) us = rows e us
  rows_stmt (test e s p) us = rows e us + rows_stmt s us
  rows_stmt (test_else e s r p) us = rows e us + (rows_stmt s us + rows_stmt r us)
  rows_stmt (repeat e s p) us = rows e us + rows_stmt s us
  rows_stmt (steps a e b s p) us = rows_stmts a us + (rows e us + (rows_stmts b us + rows_stmt s us))
  rows_stmt (lights over args s p) us = rows_args args us + rows_stmt s us

  pub rows_stmts : Stmts → List Bool → ℕ
  rows_stmts done us = 0
  rows_stmts (first s rest) us = rows_stmt s us + rows_stmts rest (after s us)

abbrev pub rows_defaults : List Default → ℕ
rows_defaults [] = 0
rows_defaults (d ∷ ds) = rows d.value [] + rows_defaults ds

-- the rows that a whole tree counts
abbrev pub rows_of : Tree → ℕ
rows_of t = predefined_rows t.kind + (rows_of_classes (local_classes t.params) + (rows_defaults t.defaults + rows_stmts t.body (local_classes t.params)))
