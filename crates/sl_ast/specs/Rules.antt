-- The table of operators, conversions and built-ins: which operands each takes, and the type of its value.
-- A float stands for a colour, point, vector or normal with three equal parts; points, vectors and normals stand for
-- each other. A condition is a type of its own, and no value.
use Rattle.std.specs.Prelude.{◌&&◌, Bool, true, false, Option, Some, None, cond, ◌≡◌, refl}
use Rattle.sl_ast.specs.declared.kinds.SlType.{SlType}
use Rattle.sl_ast.specs.declared.kinds.SlType.TheVariants as types
use Rattle.sl_ast.specs.declared.kinds.NodeType.{NodeType}
use Rattle.sl_ast.specs.declared.kinds.NodeType.TheVariants.{Float, Color, Point, Vector, Normal, Str, Test}
use Rattle.sl_ast.specs.declared.operations.Operation.{Operation}
use Rattle.sl_ast.specs.declared.operations.Operation.TheVariants as operations
use Rattle.sl_ast.specs.declared.operations.ValueOperation.{ValueOperation}
use Rattle.sl_ast.specs.declared.operations.ValueOperation.TheVariants as ops
use Rattle.sl_ast.specs.declared.operations.Difference.{Difference}
use Rattle.sl_ast.specs.declared.operations.Difference.TheVariants as differences
use Rattle.sl_ast.specs.declared.operations.LightSum.{LightSum}
use Rattle.sl_ast.specs.declared.operations.LightSum.TheVariants as sums
use Rattle.sl_ast.specs.declared.operations.Look.{Look}
use Rattle.sl_ast.specs.declared.operations.Look.TheVariants as looks
use Rattle.sl_ast.specs.declared.kinds.SetOperator.{SetOperator}
use Rattle.sl_ast.specs.declared.kinds.SetOperator.TheVariants as sets
use Rattle.sl_ast.specs.declared.kinds.SpaceName.TheVariants.{Current}
use Rattle.sl_ast.specs.declared.operands.Operands.{Operands}
use Rattle.sl_ast.specs.declared.operands.Operands.TheVariants.{Nothing, One, Two, Three}

abbrev pub node_type : SlType → NodeType
node_type types.Float = Float
node_type types.Color = Color
node_type types.Point = Point
node_type types.Vector = Vector
node_type types.Normal = Normal
node_type types.Str = Str

abbrev pub is_float : NodeType → Bool
is_float Float = true
is_float _ = false

abbrev pub is_test : NodeType → Bool
is_test Test = true
is_test _ = false

abbrev pub is_string : NodeType → Bool
is_string Str = true
is_string _ = false

-- a colour, or a float for one
abbrev pub is_color : NodeType → Bool
is_color Color = true
is_color Float = true
is_color _ = false

-- a point, vector or normal, or a float for one
abbrev pub is_triple : NodeType → Bool
is_triple Point = true
is_triple Vector = true
is_triple Normal = true
is_triple Float = true
is_triple _ = false

-- a value of the second type goes where one of the first is wanted
abbrev pub takes : SlType → NodeType → Bool
takes types.Float kind = is_float kind
takes types.Color kind = is_color kind
takes types.Point kind = is_triple kind
takes types.Vector kind = is_triple kind
takes types.Normal kind = is_triple kind
takes types.Str kind = is_string kind

abbrev pub when : Bool → NodeType → Option NodeType
when holds kind = cond holds (Some kind) None

-- a float beside a number, colour or triple is one of those
abbrev pub beside_float : NodeType → Option NodeType
beside_float Test = None
beside_float Str = None
beside_float kind = Some kind

-- the one type of two numbers, colours or triples; of two triples, that of the first
abbrev pub together : NodeType → NodeType → Option NodeType
together Float kind = beside_float kind
together Color kind = when (is_color kind) Color
together Point kind = when (is_triple kind) Point
together Vector kind = when (is_triple kind) Vector
together Normal kind = when (is_triple kind) Normal
together Str kind = None
together Test kind = None

-- the one type of two values, strings among them
abbrev pub alike : NodeType → NodeType → Option NodeType
alike Str kind = when (is_string kind) Str
alike first kind = together first kind

abbrev pub and_with : NodeType → Option NodeType → Option NodeType
and_with kind (Some first) = together first kind
and_with kind None = None

abbrev pub compared : Option NodeType → Option NodeType
compared (Some kind) = Some Test
compared None = None

-- so many floats give that
abbrev pub one_float : NodeType → Operands → Option NodeType
one_float kind (One a) = when (is_float a) kind
one_float kind _ = None

abbrev pub two_floats : NodeType → Operands → Option NodeType
two_floats kind (Two a b) = when (is_float a && is_float b) kind
two_floats kind _ = None

abbrev pub three_floats : NodeType → Operands → Option NodeType
three_floats kind (Three a b c) = when (is_float a && (is_float b && is_float c)) kind
three_floats kind _ = None

-- so many numbers, colours or triples of one type give one of that type, part by part
abbrev pub one_alike : Operands → Option NodeType
one_alike (One a) = together a a
one_alike _ = None

abbrev pub two_alike : Operands → Option NodeType
two_alike (Two a b) = together a b
two_alike _ = None

abbrev pub three_alike : Operands → Option NodeType
three_alike (Three a b c) = and_with c (together a b)
three_alike _ = None

abbrev pub some_alike : Operands → Option NodeType
some_alike (Two a b) = together a b
some_alike (Three a b c) = and_with c (together a b)
some_alike _ = None

-- so many points, vectors or normals give that
abbrev pub one_triple : NodeType → Operands → Option NodeType
one_triple kind (One a) = when (is_triple a) kind
one_triple kind _ = None

abbrev pub two_triples : NodeType → Operands → Option NodeType
two_triples kind (Two a b) = when (is_triple a && is_triple b) kind
two_triples kind _ = None

abbrev pub three_triples : NodeType → Operands → Option NodeType
three_triples kind (Three a b c) = when (is_triple a && (is_triple b && is_triple c)) kind
three_triples kind _ = None

-- conditions
abbrev pub one_test : Operands → Option NodeType
one_test (One a) = when (is_test a) Test
one_test _ = None

abbrev pub two_tests : Operands → Option NodeType
two_tests (Two a b) = when (is_test a && is_test b) Test
two_tests _ = None

-- two values of one type, compared
abbrev pub equality : Operands → Option NodeType
equality (Two a b) = compared (alike a b)
equality _ = None

-- one of two values by a condition
abbrev pub selection : Operands → Option NodeType
selection (Three test a b) = cond (is_test test) (alike a b) None
selection _ = None

-- a colour or triple of three floats
abbrev pub components : SlType → Operands → Option NodeType
components types.Float operands = None
components types.Str operands = None
components kind operands = three_floats (node_type kind) operands

-- a type before a value, which becomes that type
abbrev pub conversion : SlType → Operands → Option NodeType
conversion types.Str operands = None
conversion kind (One a) = when (takes kind a) (node_type kind)
conversion kind _ = None

-- a channel of a colour
abbrev pub channel : Operands → Option NodeType
channel (Two a b) = when (is_color a && is_float b) Float
channel _ = None

-- a triple behind the names of one or two spaces
abbrev pub through_spaces : NodeType → Operands → Option NodeType
through_spaces kind (Two space a) = when (is_string space && is_triple a) kind
through_spaces kind (Three from space a) = when (is_string from && (is_string space && is_triple a)) kind
through_spaces kind _ = None

-- one or two floats, or a triple
abbrev pub lattice : Operands → Option NodeType
lattice (One a) = when (is_triple a) Float
lattice (Two a b) = when (is_float a && is_float b) Float
lattice _ = None

-- the difference of two values of a type: that of points is a vector
abbrev pub apart : NodeType → NodeType
apart Point = Vector
apart kind = kind

abbrev pub and_apart : Option NodeType → Option NodeType
and_apart (Some kind) = Some (apart kind)
and_apart None = None

abbrev pub difference : Operands → Option NodeType
difference (One a) = and_apart (together a a)
difference _ = None

abbrev pub no_operands : NodeType → Operands → Option NodeType
no_operands kind Nothing = Some kind
no_operands kind _ = None

abbrev pub highlight : Operands → Option NodeType
highlight (Three a b c) = when (is_triple a && (is_triple b && is_float c)) Color
highlight _ = None

-- the name of a texture; and that and two places
abbrev pub one_string : NodeType → Operands → Option NodeType
one_string kind (One a) = when (is_string a) kind
one_string kind _ = None

abbrev pub looked_up : Operands → Option NodeType
looked_up (Three a b c) = when (is_string a && (is_float b && is_float c)) Color
looked_up _ = None

-- the first part of a colour
abbrev pub first_part : Operands → Option NodeType
first_part (One a) = when (is_color a) Float
first_part _ = None

-- the type of an operation's value, where it takes these operands
abbrev pub value_rule : ValueOperation → Operands → Option NodeType
value_rule ops.Negate operands = one_alike operands
value_rule ops.Not operands = one_test operands
value_rule ops.Or operands = two_tests operands
value_rule ops.And operands = two_tests operands
value_rule ops.Equal operands = equality operands
value_rule ops.NotEqual operands = equality operands
value_rule ops.Less operands = two_floats Test operands
value_rule ops.LessEqual operands = two_floats Test operands
value_rule ops.Greater operands = two_floats Test operands
value_rule ops.GreaterEqual operands = two_floats Test operands
value_rule ops.Add operands = two_alike operands
value_rule ops.Subtract operands = two_alike operands
value_rule ops.Cross operands = two_triples Vector operands
value_rule ops.Multiply operands = two_alike operands
value_rule ops.Divide operands = two_alike operands
value_rule ops.Dot operands = two_triples Float operands
value_rule ops.Select operands = selection operands
value_rule (ops.Triple kind space) operands = components kind operands
value_rule (ops.Convert kind space) operands = conversion kind operands
value_rule ops.Abs operands = one_alike operands
value_rule ops.Sign operands = one_alike operands
value_rule ops.Floor operands = one_alike operands
value_rule ops.Ceil operands = one_alike operands
value_rule ops.Round operands = one_alike operands
value_rule ops.Min operands = some_alike operands
value_rule ops.Max operands = some_alike operands
value_rule ops.Clamp operands = three_alike operands
value_rule ops.Mod operands = two_alike operands
value_rule ops.Mix operands = three_alike operands
value_rule ops.Sin operands = one_float Float operands
value_rule ops.Cos operands = one_float Float operands
value_rule ops.Tan operands = one_float Float operands
value_rule ops.Sqrt operands = one_float Float operands
value_rule ops.InverseSqrt operands = one_float Float operands
value_rule ops.Pow operands = two_floats Float operands
value_rule ops.Exp operands = one_float Float operands
value_rule ops.Log operands = one_float Float operands
value_rule ops.Radians operands = one_float Float operands
value_rule ops.Degrees operands = one_float Float operands
value_rule ops.Step operands = two_floats Float operands
value_rule ops.SmoothStep operands = three_floats Float operands
value_rule ops.XComp operands = one_triple Float operands
value_rule ops.YComp operands = one_triple Float operands
value_rule ops.ZComp operands = one_triple Float operands
value_rule ops.Comp operands = channel operands
value_rule ops.Length operands = one_triple Float operands
value_rule ops.Distance operands = two_triples Float operands
value_rule ops.Normalize operands = one_triple Vector operands
value_rule ops.Reflect operands = two_triples Vector operands
value_rule ops.FaceForward operands = three_triples Vector operands
value_rule (ops.Transform from into) operands = through_spaces Point operands
value_rule (ops.VTransform from into) operands = through_spaces Vector operands
value_rule (ops.NTransform from into) operands = through_spaces Normal operands
value_rule ops.Depth operands = one_triple Float operands
value_rule ops.Noise operands = lattice operands

abbrev pub difference_rule : Difference → Operands → Option NodeType
difference_rule differences.Du operands = difference operands
difference_rule differences.Dv operands = difference operands
difference_rule differences.CalculateNormal operands = one_triple Normal operands

abbrev pub sum_rule : LightSum → Operands → Option NodeType
sum_rule sums.Ambient operands = no_operands Color operands
sum_rule sums.Diffuse operands = one_triple Color operands
sum_rule sums.Specular operands = highlight operands

abbrev pub look_rule : Look → Operands → Option NodeType
look_rule looks.At operands = looked_up operands
look_rule looks.Here operands = one_string Color operands
look_rule looks.First operands = first_part operands

-- the type of an operation's value where it takes operands of these types
abbrev pub rule : Operation → Operands → Option NodeType
rule (operations.Value operation) operands = value_rule operation operands
rule operations.FaceForwardNg operands = two_triples Vector operands
rule (operations.Difference which) operands = difference_rule which operands
rule (operations.Sum which) operands = sum_rule which operands
rule (operations.Look look) operands = look_rule look operands

-- what `=`, `+=`, `-=`, `*=` and `/=` put into a variable of that type
abbrev pub put_into : NodeType → SetOperator → NodeType → Option NodeType
put_into kind sets.Set value = Some value
put_into kind sets.Add value = value_rule ops.Add (Two kind value)
put_into kind sets.Subtract value = value_rule ops.Subtract (Two kind value)
put_into kind sets.Multiply value = value_rule ops.Multiply (Two kind value)
put_into kind sets.Divide value = value_rule ops.Divide (Two kind value)

-- a float is promoted beside a colour
abbrev scaled_color : value_rule ops.Multiply (Two Float Color) ≡ Some Color
scaled_color = refl

-- a colour is no point
abbrev color_and_point : value_rule ops.Add (Two Color Point) ≡ None
color_and_point = refl

-- a point less a normal has the type of the first
abbrev point_less_normal : value_rule ops.Subtract (Two Point Normal) ≡ Some Point
point_less_normal = refl

-- strings are compared and not added
abbrev strings_equal : value_rule ops.Equal (Two Str Str) ≡ Some Test
strings_equal = refl

abbrev strings_added : value_rule ops.Add (Two Str Str) ≡ None
strings_added = refl

-- conditions are no values
abbrev conditions_equal : value_rule ops.Equal (Two Test Test) ≡ None
conditions_equal = refl

abbrev color_of_point : value_rule (ops.Convert types.Color Current) (One Point) ≡ None
color_of_point = refl

-- a blend of colours by a float
abbrev blended_colors : value_rule ops.Mix (Three Color Color Float) ≡ Some Color
blended_colors = refl

abbrev noise_of_color : value_rule ops.Noise (One Color) ≡ None
noise_of_color = refl

abbrev difference_of_points : difference_rule differences.Du (One Point) ≡ Some Vector
difference_of_points = refl

abbrev component_of_float : value_rule ops.Comp (Two Float Float) ≡ Some Float
component_of_float = refl

-- a texture's first argument is its name
abbrev texture_by_name : look_rule looks.Here (One Str) ≡ Some Color
texture_by_name = refl

abbrev texture_by_number : look_rule looks.At (Three Float Float Float) ≡ None
texture_by_number = refl
