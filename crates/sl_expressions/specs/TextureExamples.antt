-- Worked values of calls of `texture`: what may name a texture, where a call may stand, and what a type before one does.
use Rattle.std.specs.Prelude.{◌≡◌, Bool, true, false, List, [], ◌∷◌, None, Ok, Err, codes, refl}
use Rattle.sl_ast.specs.Syntax as U
use Rattle.sl_ast.specs.WellTyped as W
use Rattle.sl_ast.specs.declared.kinds.SlKind.TheVariants.{Surface, Light}
use Rattle.sl_ast.specs.declared.kinds.SlType.{SlType}
use Rattle.sl_ast.specs.declared.kinds.SlType.TheVariants as types
use Rattle.sl_ast.specs.declared.kinds.NodeType.TheVariants as nodes
use Rattle.sl_ast.specs.declared.kinds.Prefix.TheVariants.{Negative}
use Rattle.sl_ast.specs.declared.kinds.SpaceName.TheVariants.{Current}
use Rattle.sl_ast.specs.declared.operations.Operation.TheVariants.{Look, Value}
use Rattle.sl_ast.specs.declared.operations.Look.TheVariants.{Here, First}
use Rattle.sl_ast.specs.declared.operations.ValueOperation.TheVariants.{Convert}
use Rattle.sl_ast.specs.declared.typed.Variable.TheVariants.{Level}
use Rattle.sl_expressions.specs.Exprs.{typed_expr}
use Rattle.sl_expressions.specs.Found.{Found}
use Rattle.sl_expressions.specs.Scope.{Local}
use Rattle.sl_expressions.specs.Typed as T
use Rattle.sl_expressions.specs.declared.faults.TypeCode.TheVariants.{T1, T2, T6, T11}

-- one variable, a, on line 1
abbrev variable : SlType → Bool → List Local
variable kind fixed = record { uniform = true; kind = kind; name = codes "a"; fixed = fixed; line = 1 } ∷ []

abbrev given_to : W.Around → List Local → U.Expr → Found T.Expr
given_to g ls e = typed_expr (record { at = g; own = None; known = [] }) false ls e

abbrev found : List Local → U.Expr → Found T.Expr
found ls e = given_to (W.in_shader Surface) ls e

-- texture(e), on line 2; a, on line 3
abbrev call_of : U.Expr → U.Expr
call_of e = U.call (codes "texture") (U.more e U.none) 2

abbrev a : U.Expr
a = U.name (codes "a") 3

abbrev look_up : T.Expr → T.Expr
look_up e = T.apply (Look Here) (T.more e T.none) nodes.Color 2

abbrev named_a : T.Expr
named_a = T.variable (Level 0) nodes.Str 3

literal : found [] (call_of (U.string (codes "t.ppm") 3)) ≡ Ok (look_up (T.word (codes "t.ppm") 3))
literal = refl

parameter : found (variable types.Str true) (call_of a) ≡ Ok (look_up named_a)
parameter = refl

in_parentheses : found (variable types.Str true) (call_of (U.paren a 2)) ≡ Ok (look_up named_a)
in_parentheses = refl

-- a variable, or a parameter that is assigned: at its name; what is no name: at the call
assigned : found (variable types.Str false) (call_of (U.paren a 2)) ≡ Err (T11, 3)
assigned = refl

chosen : found (variable types.Str true) (call_of (U.choice a a a 3)) ≡ Err (T11, 2)
chosen = refl

no_string : found (variable types.Color true) (call_of a) ≡ Err (T2, 2)
no_string = refl

-- what has another type, or none, where another argument is unknown
abbrev with : U.Expr → U.Expr → U.Expr
with e f = U.call (codes "texture") (U.more e (U.more f U.none)) 2

abbrev unknown : U.Expr
unknown = U.name (codes "b") 3

other_type : found [] (with (U.number (codes "7") 2) unknown) ≡ Err (T1, 3)
other_type = refl

other_type_in_parentheses : found [] (with (U.paren (U.call (codes "sin") (U.more (U.number (codes "1") 2) U.none) 2) 2) unknown) ≡ Err (T1, 3)
other_type_in_parentheses = refl

no_type : found [] (with (U.prefixed Negative (U.string (codes "t") 2) 2) unknown) ≡ Err (T11, 2)
no_type = refl

chosen_name : found (variable types.Str true) (with (U.choice a a a 3) unknown) ≡ Err (T11, 2)
chosen_name = refl

in_a_light : given_to (W.in_shader Light) (variable types.Str true) (call_of a) ≡ Err (T6, 2)
in_a_light = refl

in_a_default : given_to (W.in_default Surface) [] (call_of (U.string (codes "t.ppm") 3)) ≡ Err (T11, 2)
in_a_default = refl

-- float directly before it takes the first part, not before parentheses; color changes nothing
first_part : found (variable types.Str true) (U.typed types.Float None (call_of a) 1) ≡ Ok (T.apply (Look First) (T.more (look_up named_a) T.none) nodes.Float 1)
first_part = refl

before_parentheses : found (variable types.Str true) (U.typed types.Float None (U.paren (call_of a) 2) 1) ≡ Err (T2, 1)
before_parentheses = refl

as_a_color : found (variable types.Str true) (U.typed types.Color None (call_of a) 1) ≡ Ok (T.apply (Value (Convert types.Color Current)) (T.more (look_up named_a) T.none) nodes.Color 1)
as_a_color = refl
