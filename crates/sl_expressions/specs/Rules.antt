-- Operators and built-in functions by what the text calls them (RenderMan Interface 3.2, sections 11 to 15).
use Rattle.std.specs.Prelude.{ℕ, List, [], ◌∷◌, codes}
use Rattle.sl_ast.specs.declared.operations.Operation.{Operation}
use Rattle.sl_ast.specs.declared.operations.Operation.TheVariants as operations
use Rattle.sl_ast.specs.declared.operations.ValueOperation.TheVariants as ops
use Rattle.sl_ast.specs.declared.operations.Difference.TheVariants as differences
use Rattle.sl_ast.specs.declared.operations.LightSum.TheVariants as sums
use Rattle.sl_ast.specs.declared.operations.Look.TheVariants as looks
use Rattle.sl_ast.specs.declared.kinds.Operator.{Operator}
use Rattle.sl_ast.specs.declared.kinds.Operator.TheVariants as operators
use Rattle.sl_ast.specs.declared.kinds.Prefix.{Prefix}
use Rattle.sl_ast.specs.declared.kinds.Prefix.TheVariants as prefixes
use Rattle.sl_ast.specs.declared.kinds.SpaceName.TheVariants.{Current}
use Rattle.sl_expressions.specs.declared.rules.Builtin.{Builtin}
use Rattle.sl_expressions.specs.declared.rules.Builtin.TheVariants.{Plain, LeftOut}

-- the operation of an operator between two operands
abbrev pub operation_of : Operator → Operation
operation_of operators.Or = operations.Value ops.Or
operation_of operators.And = operations.Value ops.And
operation_of operators.Equal = operations.Value ops.Equal
operation_of operators.NotEqual = operations.Value ops.NotEqual
operation_of operators.Less = operations.Value ops.Less
operation_of operators.LessEqual = operations.Value ops.LessEqual
operation_of operators.Greater = operations.Value ops.Greater
operation_of operators.GreaterEqual = operations.Value ops.GreaterEqual
operation_of operators.Add = operations.Value ops.Add
operation_of operators.Subtract = operations.Value ops.Subtract
operation_of operators.Cross = operations.Value ops.Cross
operation_of operators.Multiply = operations.Value ops.Multiply
operation_of operators.Divide = operations.Value ops.Divide
operation_of operators.Dot = operations.Value ops.Dot

-- that of one before its operand
abbrev pub prefix_operation : Prefix → Operation
prefix_operation prefixes.Negative = operations.Value ops.Negate
prefix_operation prefixes.Not = operations.Value ops.Not

-- the built-in functions
abbrev pub builtin_names : List (List ℕ × Builtin)
builtin_names =
    (codes "abs", Plain (operations.Value ops.Abs))
    ∷ (codes "sign", Plain (operations.Value ops.Sign))
    ∷ (codes "floor", Plain (operations.Value ops.Floor))
    ∷ (codes "ceil", Plain (operations.Value ops.Ceil))
    ∷ (codes "round", Plain (operations.Value ops.Round))
    ∷ (codes "min", Plain (operations.Value ops.Min))
    ∷ (codes "max", Plain (operations.Value ops.Max))
    ∷ (codes "clamp", Plain (operations.Value ops.Clamp))
    ∷ (codes "mod", Plain (operations.Value ops.Mod))
    ∷ (codes "mix", Plain (operations.Value ops.Mix))
    ∷ (codes "sin", Plain (operations.Value ops.Sin))
    ∷ (codes "cos", Plain (operations.Value ops.Cos))
    ∷ (codes "tan", Plain (operations.Value ops.Tan))
    ∷ (codes "sqrt", Plain (operations.Value ops.Sqrt))
    ∷ (codes "inversesqrt", Plain (operations.Value ops.InverseSqrt))
    ∷ (codes "pow", Plain (operations.Value ops.Pow))
    ∷ (codes "exp", Plain (operations.Value ops.Exp))
    ∷ (codes "log", Plain (operations.Value ops.Log))
    ∷ (codes "radians", Plain (operations.Value ops.Radians))
    ∷ (codes "degrees", Plain (operations.Value ops.Degrees))
    ∷ (codes "step", Plain (operations.Value ops.Step))
    ∷ (codes "smoothstep", Plain (operations.Value ops.SmoothStep))
    ∷ (codes "xcomp", Plain (operations.Value ops.XComp))
    ∷ (codes "ycomp", Plain (operations.Value ops.YComp))
    ∷ (codes "zcomp", Plain (operations.Value ops.ZComp))
    ∷ (codes "comp", Plain (operations.Value ops.Comp))
    ∷ (codes "length", Plain (operations.Value ops.Length))
    ∷ (codes "distance", Plain (operations.Value ops.Distance))
    ∷ (codes "normalize", Plain (operations.Value ops.Normalize))
    ∷ (codes "reflect", Plain (operations.Value ops.Reflect))
    ∷ (codes "faceforward", Plain (operations.Value ops.FaceForward))
    ∷ (codes "transform", Plain (operations.Value (ops.Transform Current Current)))
    ∷ (codes "vtransform", Plain (operations.Value (ops.VTransform Current Current)))
    ∷ (codes "ntransform", Plain (operations.Value (ops.NTransform Current Current)))
    ∷ (codes "depth", Plain (operations.Value ops.Depth))
    ∷ (codes "noise", Plain (operations.Value ops.Noise))
    ∷ (codes "Du", Plain (operations.Difference differences.Du))
    ∷ (codes "Dv", Plain (operations.Difference differences.Dv))
    ∷ (codes "calculatenormal", Plain (operations.Difference differences.CalculateNormal))
    ∷ (codes "ambient", Plain (operations.Sum sums.Ambient))
    ∷ (codes "diffuse", Plain (operations.Sum sums.Diffuse))
    ∷ (codes "specular", Plain (operations.Sum sums.Specular))
    ∷ (codes "texture", Plain (operations.Look looks.At))
    ∷ (codes "asin", LeftOut)
    ∷ (codes "acos", LeftOut)
    ∷ (codes "atan", LeftOut)
    ∷ (codes "spline", LeftOut)
    ∷ (codes "printf", LeftOut)
    ∷ (codes "bump", LeftOut)
    ∷ []
