-- Which parameters the body of a shader assigns: those whose names are set where no variable of the body has the name.
use Rattle.std.specs.Prelude.{◌≡◌, refl, ℕ, cond, List, [], ◌∷◌, ◌++◌, map, is_some, Option, Some, None, codes}
use Rattle.fixed_math.specs.Names.{last_place}
use Rattle.sl_ast.specs.Syntax as U
use Rattle.sl_ast.specs.declared.kinds.SetOperator.TheVariants as operators
use Rattle.sl_ast.specs.declared.kinds.SlType.TheVariants as types

-- the names of the variables that a statement leaves in scope
abbrev pub declared_name : U.Declared → List ℕ
declared_name d = d.name

abbrev pub declared_names : U.Stmt → List (List ℕ)
declared_names (U.declare class kind ds line) = map declared_name ds
declared_names s = []

-- a name that is set, unless it is that of one of these variables
abbrev pub set_outside : List (List ℕ) → List ℕ → List (List ℕ)
set_outside own name = cond (is_some (last_place name own)) [] (name ∷ [])

abbrev pub set_if : List (List ℕ) → Option U.Assignment → List (List ℕ)
set_if own None = []
set_if own (Some a) = set_outside own a.name

-- the names that a statement, or several, set outside of these variables and their own
abbrev mutual
  pub sets : List (List ℕ) → U.Stmt → List (List ℕ)
  sets own (U.assign a) = set_outside own a.name
  sets own (U.block ss line) = sets_all own ss
  sets own (U.test e s line) = sets own s
  sets own (U.test_else e s o line) = sets own s ++ sets own o
  sets own (U.repeat e s line) = sets own s
  sets own (U.steps a e b s line) = set_if own a ++ (set_if own b ++ sets own s)
  sets own (U.lights word e c s line) = sets own s
  sets own (U.solar e f s line) = sets own s
  sets own s = []

  pub sets_all : List (List ℕ) → U.Stmts → List (List ℕ)
  sets_all own U.done = []
  sets_all own (U.first s rest) = sets own s ++ sets_all (own ++ declared_names s) rest

abbrev pub assigned_in : U.Stmts → List (List ℕ)
assigned_in body = sets_all [] body

-- worked: a = 1; and float a; a = 1; alone, and in a block of its own
abbrev set_a : U.Stmt
set_a = U.assign record { name = codes "a"; operator = operators.Set; value = U.number (codes "1") 1; line = 1; set_line = 1 }

abbrev own_a : U.Stmt
own_a = U.declare None types.Float (record { name = codes "a"; value = None; line = 1; set_line = 1 } ∷ []) 1

one_assigned : assigned_in (U.first set_a U.done) ≡ codes "a" ∷ []
one_assigned = refl

own_variable : assigned_in (U.first own_a (U.first set_a U.done)) ≡ []
own_variable = refl

own_in_a_block : assigned_in (U.first (U.block (U.first own_a U.done) 1) (U.first set_a U.done)) ≡ codes "a" ∷ []
own_in_a_block = refl
