-- Worked values of the definitions on typed trees.
use Rattle.std.specs.Prelude.{ℕ, ◌+◌, pos, codes, true, false, [], ◌∷◌, Some, ◌≡◌, refl}
use Rattle.sl_ast.specs.declared.kinds.SlKind.{SlKind}
use Rattle.sl_ast.specs.declared.kinds.SlKind.TheVariants as shaders
use Rattle.sl_ast.specs.declared.kinds.SlType.TheVariants as values
use Rattle.sl_ast.specs.declared.kinds.NodeType.TheVariants as types
use Rattle.sl_ast.specs.declared.operations.Operation.TheVariants as operations
use Rattle.sl_ast.specs.declared.operations.ValueOperation.TheVariants as ops
use Rattle.sl_ast.specs.declared.operations.Difference.TheVariants as differences
use Rattle.sl_ast.specs.declared.kinds.SetOperator.TheVariants as sets
use Rattle.sl_ast.specs.declared.kinds.LightStmt.TheVariants as words
use Rattle.sl_ast.specs.declared.kinds.Predefined.TheVariants as names
use Rattle.sl_ast.specs.declared.kinds.ControlCode.TheVariants as faults
use Rattle.sl_ast.specs.declared.kinds.SpaceName.TheVariants as spaces
use Rattle.sl_ast.specs.declared.typed.Variable.TheVariants as variables
use Rattle.sl_ast.specs.declared.typed.Place.{Place}
use Rattle.sl_ast.specs.Typed.{Expr, number, word, variable, apply, call, Exprs, none, more, Stmt, empty, leave, declare, start, assign, test, repeat, lights, Stmts, done, first, Tree, numbers_tree}
use Rattle.sl_ast.specs.WellTyped.{well_typed}
use Rattle.sl_ast.specs.Classes.{is_uniform, is_uniform_loop, classes_tree}
use Rattle.sl_ast.specs.Settled.{unsettled}
use Rattle.sl_ast.specs.Registers.{rows_of}

-- the node of that number, on the line of that number
abbrev pub at : ℕ → Place
at n = record { line = n; number = n }

abbrev pub one : ℕ → Expr
one n = number (pos 65536) (at n)

abbrev pub u_at : ℕ → Expr
u_at n = variable (variables.Predefined names.U) types.Float (at n)

abbrev pub local_at : ℕ → ℕ → Expr
local_at level n = variable (variables.Level level) types.Float (at n)

-- `a < 1` from that number on
abbrev pub below_one : Expr → ℕ → Expr
below_one a n = apply (operations.Value ops.Less) (more a (more (one (n + 2)) none)) types.Test (at n)

abbrev pub set_local : ℕ → Expr → ℕ → Stmt
set_local level e n = assign (variables.Level level) sets.Set values.Float e (at n)

abbrev pub shader : SlKind → Stmts → Tree
shader kind body = record { kind = kind; params = []; defaults = []; body = body; place = at 0 }

abbrev pub then_one : Stmt → Stmts
then_one s = first s done

abbrev pub u_below_one : ℕ → Expr
u_below_one n = below_one (u_at (n + 1)) n

-- surface { uniform float k = 1; if (u < 1) k = 1; }
abbrev pub set_under_varying : Tree
set_under_varying = shader shaders.Surface
    (first (declare true values.Float (one 2) (at 1)) (then_one (test (u_below_one 4) (set_local 0 (one 8) 7) (at 3))))

abbrev pub set_under_varying_numbers : numbers_tree set_under_varying ≡ 0 ∷ 1 ∷ 2 ∷ 3 ∷ 4 ∷ 5 ∷ 6 ∷ 7 ∷ 8 ∷ []
set_under_varying_numbers = refl

abbrev pub set_under_varying_typed : well_typed set_under_varying ≡ true
set_under_varying_typed = refl

-- the `if` stands in uniform control, its condition is varying, what it holds stands in varying control
abbrev pub set_under_varying_classes :
    classes_tree set_under_varying ≡ true ∷ true ∷ true ∷ true ∷ false ∷ false ∷ true ∷ false ∷ true ∷ []
set_under_varying_classes = refl

abbrev pub set_under_varying_fault : unsettled set_under_varying ≡ Some (faults.T4, 7)
set_under_varying_fault = refl

-- sixteen predefined variables, the condition and `u`
abbrev pub set_under_varying_rows : rows_of set_under_varying ≡ 18
set_under_varying_rows = refl

-- surface { uniform float k = u; }
abbrev varying_to_uniform : unsettled (shader shaders.Surface (then_one (declare true values.Float (u_at 2) (at 1)))) ≡ Some (faults.T3, 1)
varying_to_uniform = refl

-- a local string is varying unless it is declared uniform
abbrev varying_string : unsettled (shader shaders.Surface (then_one (start false values.Str (at 1)))) ≡ Some (faults.T3, 1)
varying_string = refl

-- if (u < 1) u = Du(1);
abbrev difference_under_varying : unsettled (shader shaders.Surface (then_one (test (u_below_one 2)
    (declare false values.Float (apply (operations.Difference differences.Du) (more (one 7) none) types.Float (at 6)) (at 5)) (at 1)))) ≡ Some (faults.T5, 6)
difference_under_varying = refl

-- while (k < 1) with a uniform k: a break on a uniform condition, and one on a varying condition
abbrev uniform_break : is_uniform_loop (below_one (local_at 0 1) 0) (test (below_one (local_at 0 4) 3) (leave (at 7)) (at 2)) (true ∷ []) true ≡ true
uniform_break = refl

abbrev varying_break : is_uniform_loop (below_one (local_at 0 1) 0) (test (u_below_one 3) (leave (at 7)) (at 2)) (true ∷ []) true ≡ false
varying_break = refl

-- the break of an inner loop leaves that loop alone
abbrev inner_break : is_uniform_loop (below_one (local_at 0 1) 0)
    (repeat (u_below_one 3) (test (u_below_one 7) (leave (at 11)) (at 6)) (at 2)) (true ∷ []) true ≡ true
inner_break = refl

-- a function without formals whose body sets a varying local, and one that doesn't
abbrev calls : Stmts → Expr
calls body = call none [] body (at 8) (one 9) types.Float (at 1)

abbrev body_varies : is_uniform (calls (then_one (declare false values.Float (one 3) (at 2)))) [] ≡ false
body_varies = refl

abbrev body_uniform : is_uniform (calls (then_one (declare true values.Float (one 3) (at 2)))) [] ≡ true
body_uniform = refl

-- a varying formal makes the call varying whatever is passed
abbrev formal_varies : is_uniform (call (more (one 2) none) (record { kind = values.Float; uniform = false; line = 1 } ∷ []) done (at 3) (one 4) types.Float (at 1)) [] ≡ false
formal_varies = refl

-- light { while (1 < 1) illuminate (Ps) ; }
abbrev ps_at : ℕ → Exprs
ps_at n = more (variable (variables.Predefined names.Ps) types.Point (at n)) none

abbrev lit_in_loop : unsettled (shader shaders.Light (then_one (repeat (below_one (one 3) 2)
    (lights words.Illuminate (ps_at 6) (empty (at 7)) (at 5)) (at 1)))) ≡ Some (faults.T9, 5)
lit_in_loop = refl

-- light { illuminate (Ps) ; illuminate (Ps) ; }
abbrev lit_twice : unsettled (shader shaders.Light (first (lights words.Illuminate (ps_at 2) (empty (at 3)) (at 1))
    (then_one (lights words.Illuminate (ps_at 5) (empty (at 6)) (at 4))))) ≡ Some (faults.T9, 4)
lit_twice = refl

-- surface { L = Ps; }: a surface reads no Ps, and sets no L
abbrev foreign_name : well_typed (shader shaders.Surface (then_one (assign (variables.Predefined names.L) sets.Set values.Vector
    (variable (variables.Predefined names.Ps) types.Point (at 2)) (at 1)))) ≡ false
foreign_name = refl

-- a surface that holds one declaration of a float
abbrev declared_float : SlKind → Expr → Tree
declared_float kind e = shader kind (then_one (declare false values.Float e (at 1)))

abbrev l_length : Expr
l_length = apply (operations.Value ops.Length) (more (variable (variables.Predefined names.L) types.Vector (at 4)) none) types.Float (at 3)

-- `L` is read in the body of `illuminance`, and not outside
abbrev light_inside : well_typed (shader shaders.Surface (then_one (lights words.Illuminance (more (one 2) none) (declare false values.Float l_length (at 3)) (at 1)))) ≡ true
light_inside = refl

abbrev light_outside : well_typed (declared_float shaders.Surface l_length) ≡ false
light_outside = refl

-- `illuminance` is no statement of a light
abbrev foreign_statement : well_typed (shader shaders.Light (then_one (lights words.Illuminance (more (one 2) none) (empty (at 3)) (at 1)))) ≡ false
foreign_statement = refl

-- `Du` is a built-in of surfaces, and not of lights
abbrev du_of_one : Expr
du_of_one = apply (operations.Difference differences.Du) (more (one 3) none) types.Float (at 2)

abbrev difference_in_surface : well_typed (declared_float shaders.Surface du_of_one) ≡ true
difference_in_surface = refl

abbrev difference_in_light : well_typed (declared_float shaders.Light du_of_one) ≡ false
difference_in_light = refl

-- a condition is no value
abbrev stored_condition : well_typed (declared_float shaders.Surface (u_below_one 2)) ≡ false
stored_condition = refl

-- a break stands in a loop
abbrev loose_break : well_typed (shader shaders.Surface (then_one (leave (at 1)))) ≡ false
loose_break = refl

-- a function sees formals and locals alone; the formal's type is that of its declaration
abbrev function_of_float : Expr → Expr
function_of_float value =
    call (more (one 3) none) (record { kind = values.Float; uniform = false; line = 1 } ∷ []) done (at 4) value types.Float (at 2)

abbrev formal_seen : well_typed (declared_float shaders.Surface (function_of_float (local_at 0 5))) ≡ true
formal_seen = refl

abbrev shader_unseen : well_typed (declared_float shaders.Surface (function_of_float (u_at 5))) ≡ false
shader_unseen = refl

-- a default sees no parameter, and knows no `depth`
abbrev with_default : Expr → Tree
with_default e = record {
  kind = shaders.Volume;
  params = record { name = []; kind = values.Float; uniform = true } ∷ [];
  defaults = record { value = e; place = at 1 } ∷ [];
  body = done;
  place = at 0;
}

abbrev plain_default : well_typed (with_default (one 2)) ≡ true
plain_default = refl

abbrev default_of_parameter : well_typed (with_default (local_at 0 2)) ≡ false
default_of_parameter = refl

abbrev default_of_depth : well_typed (with_default (apply (operations.Value ops.Depth) (more (one 3) none) types.Float (at 2))) ≡ false
default_of_depth = refl

-- the string of `transform` names its space
abbrev transformed : Expr
transformed = apply (operations.Value ops.Length) (more (apply (operations.Value (ops.Transform spaces.Current spaces.World))
    (more (word (codes "world") (at 4)) (more (one 5) none)) types.Point (at 3)) none) types.Float (at 2)

abbrev transformed_to_world : well_typed (declared_float shaders.Surface transformed) ≡ true
transformed_to_world = refl

abbrev transformed_in_default : well_typed (with_default transformed) ≡ false
transformed_in_default = refl

-- the index of `comp` is uniform
abbrev varying_index : unsettled (declared_float shaders.Surface (apply (operations.Value ops.Comp) (more (one 3) (more (u_at 4) none)) types.Float (at 2))) ≡ Some (faults.T3, 2)
varying_index = refl
