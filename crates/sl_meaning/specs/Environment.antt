-- What a shader works on at a point, and what no statement changes.
use Rattle.std.specs.Prelude.{ℕ, ℤ, ◌-◌, ◌==◌, pos, Bool, true, false, cond, List, [], ◌∷◌, ◌++◌, length, get_or, set, take, Option}
use Rattle.fixed_math.specs.declared.vec3.Vec3.{Vec3}
use Rattle.texture.specs.Images.{Image}
use Rattle.transforms.specs.declared.spaces.Spaces.{Spaces}
use Rattle.builtins.specs.Names.{place_of}
use Rattle.builtins.specs.Differences.{Lines}
use Rattle.builtins.specs.Lights.{Light}
use Rattle.sl_ast.specs.declared.kinds.NodeType.{NodeType}
use Rattle.sl_ast.specs.declared.kinds.NodeType.TheVariants as nodes
use Rattle.sl_ast.specs.declared.kinds.Predefined.{Predefined}
use Rattle.sl_ast.specs.declared.kinds.SlType.{SlType}
use Rattle.sl_ast.specs.declared.kinds.SlType.TheVariants as types
use Rattle.sl_ast.specs.declared.typed.Variable.{Variable}
use Rattle.sl_ast.specs.declared.typed.Variable.TheVariants as variables
use Rattle.sl_ast.specs.declared.typed.Value.{Value}
use Rattle.sl_ast.specs.declared.typed.Value.TheVariants.{Number, Word}

-- the predefined variables, the parameters, formals and locals by their levels, the turns left for uniform loops and those of its own, and
-- whether the `illuminate` or `solar` of a light ran lit
pub record Env : Type 0 where
  pub named : Predefined → Value
  pub values : List Value
  pub turns : ℕ
  pub own : ℕ
  pub lit : Bool

-- what no statement changes: the lines of the grid, the named spaces, the lights, and the image that each look-up names, by the number of its node
pub record Around : Type 0 where
  pub lines : Lines
  pub spaces : Spaces
  pub lights : List (Vec3 → Light)
  pub images : ℕ → Option Image

-- a statement ends, or leaves the innermost loop, or goes on with its next turn
pub data Signal : Type 0 where
  Next : Signal
  Break : Signal
  Continue : Signal

-- what a variable has that nothing was put into
abbrev pub zero_value : Value
zero_value = Number (pos 0)

-- π in 65536ths
abbrev pub pi : ℤ
pi = pos 205887

-- what a local without a value starts as
abbrev pub start_value : SlType → Value
start_value types.Str = Word []
start_value kind = zero_value

-- the type of a value of that type; a condition is no value
abbrev pub value_type : NodeType → SlType
value_type nodes.Float = types.Float
value_type nodes.Color = types.Color
value_type nodes.Point = types.Point
value_type nodes.Vector = types.Vector
value_type nodes.Normal = types.Normal
value_type nodes.Str = types.Str
value_type nodes.Test = types.Float

-- the value of a variable
abbrev pub read_of : Variable → Env → Value
read_of (variables.Predefined p) e = e.named p
read_of (variables.Level k) e = get_or e.values k zero_value

-- a point where a predefined variable has another value
abbrev pub with_name : Predefined → Value → Env → Env
with_name p v e = record e { named = λ q. cond (place_of p == place_of q) v (e.named q) }

-- a point where a variable has another value
abbrev pub with_variable : Variable → Value → Env → Env
with_variable (variables.Predefined p) v e = with_name p v e
with_variable (variables.Level k) v e = record e { values = set e.values k v }

-- with one variable more in scope
abbrev pub declared : Value → Env → Env
declared v e = record e { values = e.values ++ v ∷ [] }

-- the turns that are left, for uniform loops or for a point's own
abbrev pub budget : Bool → Env → ℕ
budget u e = cond u e.turns e.own

-- one turn less
abbrev pub spend : Bool → Env → Env
spend true e = record e { turns = e.turns - 1 }
spend false e = record e { own = e.own - 1 }

-- the variables of e back in scope, after what went on in others
abbrev pub scope_of : Env → Env → Env
scope_of e after = record after { values = e.values }

-- the variables that were in scope alone
abbrev pub cut_to : Env → Env → Env
cut_to e after = record after { values = take (length e.values) after.values }

-- a point whose predefined variables are 0 and that has no others
abbrev pub bare : ℕ → ℕ → Env
bare turns own = record { named = λ q. zero_value; values = []; turns = turns; own = own; lit = false }
