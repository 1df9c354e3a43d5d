-- A well typed tree: the operands of each node fit the table of operations, each name is a variable that may stand where
-- it does and has its type, values fit the variables, formals and returns that take them, conditions are conditions, and
-- statements and built-ins are for this kind of shader. So no fault of names, types, kinds or places stands in it.
use Rattle.std.specs.Prelude.{ℕ, Bool, true, false, not, ◌&&◌, ◌||◌, List, [], ◌∷◌, ◌++◌, Option, Some, None, cond, nat_lt, length, get_or}
use Rattle.sl_ast.specs.declared.kinds.SlKind.{SlKind}
use Rattle.sl_ast.specs.declared.kinds.SlType.{SlType}
use Rattle.sl_ast.specs.declared.kinds.SlType.TheVariants as values
use Rattle.sl_ast.specs.declared.kinds.NodeType.{NodeType}
use Rattle.sl_ast.specs.declared.kinds.NodeType.TheVariants as types
use Rattle.sl_ast.specs.declared.operations.Operation.{Operation}
use Rattle.sl_ast.specs.declared.operations.Operation.TheVariants as operations
use Rattle.sl_ast.specs.declared.operations.ValueOperation.TheVariants as ops
use Rattle.sl_ast.specs.declared.kinds.LightStmt.{LightStmt}
use Rattle.sl_ast.specs.declared.kinds.LightStmt.TheVariants.{Solar}
use Rattle.sl_ast.specs.declared.kinds.SpaceName.{SpaceName}
use Rattle.sl_ast.specs.declared.kinds.SpaceName.TheVariants.{Current}
use Rattle.sl_ast.specs.declared.operands.Operands.{Operands}
use Rattle.sl_ast.specs.declared.operands.Operands.TheVariants.{Nothing, One, Two, Three, Many}
use Rattle.sl_ast.specs.declared.typed.Variable.{Variable}
use Rattle.sl_ast.specs.declared.typed.Variable.TheVariants as variables
use Rattle.sl_ast.specs.declared.typed.TreeFormal.{TreeFormal}
use Rattle.sl_ast.specs.Typed.{Expr, number, word, variable, apply, call, Exprs, none, more, Stmt, empty, leave, again, block, group, declare, start, assign, test, test_else, repeat, steps, lights, Stmts, done, first, Default, Local, Tree}
use Rattle.sl_ast.specs.Rules.{node_type, is_test, is_float, is_triple, takes, rule, put_into}
use Rattle.sl_ast.specs.Names.{name_type, reads, writes, is_pi, has_surface, has_operation, is_constant, has_lights, space_named, has_space, stands_before, is_space}

-- where something stands: in a shader of that kind; in a parameter's default; where only formals, locals and `PI` are
-- seen; in the body of a statement over lights; in a loop
pub record Around : Type 0 where
  pub kind : SlKind
  pub default : Bool
  pub bare : Bool
  pub lit : Bool
  pub looped : Bool

abbrev pub in_function : Around → Around
in_function g = record { kind = g.kind; default = g.default; bare = true; lit = false; looped = false }

abbrev pub in_lights : Around → Around
in_lights g = record { kind = g.kind; default = g.default; bare = g.bare; lit = true; looped = g.looped }

abbrev pub in_loop : Around → Around
in_loop g = record { kind = g.kind; default = g.default; bare = g.bare; lit = g.lit; looped = true }

abbrev pub same_type : NodeType → NodeType → Bool
same_type types.Float types.Float = true
same_type types.Color types.Color = true
same_type types.Point types.Point = true
same_type types.Vector types.Vector = true
same_type types.Normal types.Normal = true
same_type types.Str types.Str = true
same_type types.Test types.Test = true
same_type _ _ = false

abbrev pub is_type : NodeType → Option NodeType → Bool
is_type kind (Some other) = same_type kind other
is_type kind None = false

-- the type of a node
abbrev pub kind_of : Expr → NodeType
kind_of (number x p) = types.Float
kind_of (word x p) = types.Str
kind_of (variable x kind p) = kind
kind_of (apply operation args kind p) = kind
kind_of (call args formals body returned value kind p) = kind

abbrev pub operands : Exprs → Operands
operands none = Nothing
operands (more a none) = One (kind_of a)
operands (more a (more b none)) = Two (kind_of a) (kind_of b)
operands (more a (more b (more c none))) = Three (kind_of a) (kind_of b) (kind_of c)
operands (more a (more b (more c (more d rest)))) = Many

-- the type of the variable at that level of the scope
abbrev pub level_type : List SlType → ℕ → Option NodeType
level_type ks level = cond (nat_lt level (length ks)) (Some (node_type (get_or ks level values.Float))) None

-- the type of a variable that is read, and of one that is set
abbrev pub read_type : Around → List SlType → Variable → Option NodeType
read_type g ks (variables.Predefined name) =
    cond (is_pi name || (not g.bare && reads g.kind g.lit name)) (Some (node_type (name_type name))) None
read_type g ks (variables.Level level) = level_type ks level

abbrev pub set_type : Around → List SlType → Variable → Option NodeType
set_type g ks (variables.Predefined name) = cond (not g.bare && writes g.kind name) (Some (node_type (name_type name))) None
set_type g ks (variables.Level level) = level_type ks level

-- a value of that type goes into one of that type
abbrev pub goes_into : NodeType → Option NodeType → Bool
goes_into types.Test value = false
goes_into kind (Some types.Float) = not (same_type kind types.Str)
goes_into types.Float (Some value) = false
goes_into types.Color (Some value) = same_type types.Color value
goes_into types.Str (Some value) = same_type types.Str value
goes_into kind (Some value) = is_triple value
goes_into kind None = false

-- the arguments fit the formals
abbrev pub fits : List TreeFormal → Exprs → Bool
fits [] none = true
fits (f ∷ fs) (more e rest) = takes f.kind (kind_of e) && fits fs rest
fits _ _ = false

-- a string literal that names that space
abbrev pub names_space : Around → SpaceName → Expr → Bool
names_space g space (word text p) = is_space space (space_named g.kind g.default text)
names_space g space _ = false

-- the strings before the value of a transformation name its spaces; with one string, the first space is the current one
abbrev pub names_spaces : Around → SpaceName → SpaceName → Exprs → Bool
names_spaces g from into (more a (more b none)) = is_space from (Some Current) && names_space g into a
names_spaces g from into (more a (more b (more c none))) = names_space g from a && names_space g into b
names_spaces g from into _ = false

-- the operation may stand here
abbrev pub stands : Around → Operation → Exprs → Bool
stands g (operations.Value (ops.Triple kind space)) args = stands_before space kind && has_space g.kind g.default space
stands g (operations.Value (ops.Convert kind space)) args = stands_before space kind && has_space g.kind g.default space
stands g (operations.Value (ops.Transform from into)) args = names_spaces g from into args
stands g (operations.Value (ops.VTransform from into)) args = names_spaces g from into args
stands g (operations.Value (ops.NTransform from into)) args = names_spaces g from into args
stands g operations.FaceForwardNg args = has_surface g.kind && not g.default
stands g operation args = has_operation g.kind operation && (is_constant operation || not g.default)

-- a place, or a place, an axis and an angle; an axis and an angle
abbrev pub lights_take : LightStmt → Operands → Bool
lights_take Solar (Two axis angle) = is_triple axis && is_float angle
lights_take Solar _ = false
lights_take over (One place) = is_triple place
lights_take over (Three place axis angle) = is_triple place && (is_triple axis && is_float angle)
lights_take over _ = false

abbrev pub formal_types : List TreeFormal → List SlType
formal_types [] = []
formal_types (f ∷ fs) = f.kind ∷ formal_types fs

abbrev pub local_types : List Local → List SlType
local_types [] = []
local_types (l ∷ ls) = l.kind ∷ local_types ls

-- the types of the variables in scope behind a statement, and behind a list of them
abbrev pub types_after : Stmt → List SlType → List SlType
types_after (declare uniform kind e p) ks = ks ++ kind ∷ []
types_after (start uniform kind p) ks = ks ++ kind ∷ []
types_after _ ks = ks

abbrev pub types_after_all : Stmts → List SlType → List SlType
types_after_all done ks = ks
types_after_all (first s rest) ks = types_after_all rest (types_after s ks)

-- nothing, or one assignment
abbrev pub is_set : Stmts → Bool
is_set done = true
is_set (first (assign x operator kind e p) done) = true
is_set _ = false

abbrev mutual
  pub typed : Around → List SlType → Expr → Bool
  typed g ks (number x p) = true
  typed g ks (word x p) = true
  typed g ks (variable x kind p) = is_type kind (read_type g ks x)
  typed g ks (apply operation args kind p) = is_type kind (rule operation (operands args)) && (stands g operation args && typed_args g ks args)
  typed g ks (call args formals body returned value kind p) =
      fits formals args && (typed_args g ks args && (typed_stmts (in_function g) (formal_types formals) body &&
      (typed (in_function g) (types_after_all body (formal_types formals)) value && goes_into kind (Some (kind_of value)))))

  pub typed_args : Around → List SlType → Exprs → Bool
  typed_args g ks none = true
  typed_args g ks (more e rest) = typed g ks e && typed_args g ks rest

  pub typed_stmt : Around → List SlType → Stmt → Bool
  typed_stmt g ks (empty p) = true
  typed_stmt g ks (leave p) = g.looped
  typed_stmt g ks (again p) = g.looped
  typed_stmt g ks (block body p) = typed_stmts g ks body
  typed_stmt g ks (group body) = typed_stmts g ks body
  typed_stmt g ks (declare uniform kind e p) = takes kind (kind_of e) && typed g ks e
  typed_stmt g ks (start uniform kind p) = true
  typed_stmt g ks (assign x operator kind e p) =
      is_type (node_type kind) (set_type g ks x) && (goes_into (node_type kind) (put_into (node_type kind) operator (kind_of e)) && typed g ks e)
  typed_stmt g ks (test e s p) = is_test (kind_of e) && (typed g ks e && typed_stmt g ks s)
  typed_stmt g ks (test_else e s r p) = is_test (kind_of e) && (typed g ks e && (typed_stmt g ks s && typed_stmt g ks r))
  typed_stmt g ks (repeat e s p) = is_test (kind_of e) && (typed g ks e && typed_stmt (in_loop g) ks s)
  typed_stmt g ks (steps a e b s p) =
      (is_set a && is_set b) && (typed_stmts g ks a && (is_test (kind_of e) && (typed g ks e && (typed_stmts g ks b && typed_stmt (in_loop g) ks s))))
  typed_stmt g ks (lights over args s p) =
      (has_lights g.kind over && not g.default) && (lights_take over (operands args) && (typed_args g ks args && typed_stmt (in_lights g) ks s))

  pub typed_stmts : Around → List SlType → Stmts → Bool
  typed_stmts g ks done = true
  typed_stmts g ks (first s rest) = typed_stmt g ks s && typed_stmts g (types_after s ks) rest

-- what surrounds a parameter's default
abbrev pub in_default : SlKind → Around
in_default kind = record { kind = kind; default = true; bare = true; lit = false; looped = false }

-- what surrounds a shader's body
abbrev pub in_shader : SlKind → Around
in_shader kind = record { kind = kind; default = false; bare = false; lit = false; looped = false }

-- a default for each parameter, which sees no variable
abbrev pub typed_defaults : SlKind → List Local → List Default → Bool
typed_defaults kind [] [] = true
typed_defaults kind (l ∷ ls) (d ∷ ds) = takes l.kind (kind_of d.value) && (typed (in_default kind) [] d.value && typed_defaults kind ls ds)
typed_defaults kind _ _ = false

abbrev pub well_typed : Tree → Bool
well_typed t = typed_defaults t.kind t.params t.defaults && typed_stmts (in_shader t.kind) (local_types t.params) t.body
