-- The shape of an operation's value, by those of its operands.
use Rattle.std.specs.Prelude.{List, [], ◌∷◌}
use Rattle.sl_ast.specs.declared.operations.ValueOperation.{ValueOperation}
use Rattle.sl_ast.specs.declared.operations.ValueOperation.TheVariants as ops
use Rattle.sl_ast.specs.declared.typed.Value.{Value}
use Rattle.sl_ast.specs.declared.typed.Value.TheVariants as values
use Rattle.builtins.specs.declared.shape.Shape.{Shape}
use Rattle.builtins.specs.declared.shape.Shape.TheVariants.{Number, Triple, Word}
use Rattle.builtins.specs.Values.{shape_of}

abbrev pub shape : Value → Shape
shape (values.Number x) = Number
shape (values.Triple t) = Triple
shape (values.Word w) = Word

-- a number, or else a triple
abbrev pub part_shape : Shape → Shape
part_shape Number = Number
part_shape _ = Triple

abbrev pub joined : Shape → Shape → Shape
joined Number s = part_shape s
joined _ s = Triple

-- of two values of which one is taken
abbrev pub alike : Shape → Shape → Shape
alike Number Number = Number
alike Word Word = Word
alike _ _ = Triple

abbrev pub shape_of_one : ValueOperation → Shape → Shape
shape_of_one ops.Negate s = part_shape s
shape_of_one ops.Not s = Number
shape_of_one (ops.Convert kind from) s = shape_of kind
shape_of_one ops.Abs s = part_shape s
shape_of_one ops.Sign s = part_shape s
shape_of_one ops.Floor s = part_shape s
shape_of_one ops.Ceil s = part_shape s
shape_of_one ops.Round s = part_shape s
shape_of_one ops.Sin s = Number
shape_of_one ops.Cos s = Number
shape_of_one ops.Tan s = Number
shape_of_one ops.Sqrt s = Number
shape_of_one ops.InverseSqrt s = Number
shape_of_one ops.Exp s = Number
shape_of_one ops.Log s = Number
shape_of_one ops.Radians s = Number
shape_of_one ops.Degrees s = Number
shape_of_one ops.XComp s = Number
shape_of_one ops.YComp s = Number
shape_of_one ops.ZComp s = Number
shape_of_one ops.Length s = Number
shape_of_one ops.Normalize s = Triple
shape_of_one (ops.Transform from into) s = Triple
shape_of_one (ops.VTransform from into) s = Triple
shape_of_one (ops.NTransform from into) s = Triple
shape_of_one ops.Depth s = Number
shape_of_one ops.Noise s = Number
shape_of_one _ s = s

abbrev pub shape_of_two : ValueOperation → Shape → Shape → Shape
shape_of_two ops.Or s t = Number
shape_of_two ops.And s t = Number
shape_of_two ops.Equal s t = Number
shape_of_two ops.NotEqual s t = Number
shape_of_two ops.Less s t = Number
shape_of_two ops.LessEqual s t = Number
shape_of_two ops.Greater s t = Number
shape_of_two ops.GreaterEqual s t = Number
shape_of_two ops.Add s t = joined s t
shape_of_two ops.Subtract s t = joined s t
shape_of_two ops.Cross s t = Triple
shape_of_two ops.Multiply s t = joined s t
shape_of_two ops.Divide s t = joined s t
shape_of_two ops.Dot s t = Number
shape_of_two ops.Min s t = joined s t
shape_of_two ops.Max s t = joined s t
shape_of_two ops.Mod s t = joined s t
shape_of_two ops.Pow s t = Number
shape_of_two ops.Step s t = Number
shape_of_two ops.Comp s t = Number
shape_of_two ops.Distance s t = Number
shape_of_two ops.Reflect s t = Triple
shape_of_two ops.Noise s t = Number
shape_of_two _ s t = s

abbrev pub shape_of_three : ValueOperation → Shape → Shape → Shape → Shape
shape_of_three ops.Select r s t = alike s t
shape_of_three (ops.Triple kind from) r s t = shape_of kind
shape_of_three ops.Min r s t = joined (joined r s) t
shape_of_three ops.Max r s t = joined (joined r s) t
shape_of_three ops.Clamp r s t = joined (joined r s) t
shape_of_three ops.Mix r s t = joined (joined r s) t
shape_of_three ops.SmoothStep r s t = Number
shape_of_three ops.FaceForward r s t = Triple
shape_of_three _ r s t = r

abbrev pub shape_applied : ValueOperation → List Shape → Shape
shape_applied op (s ∷ []) = shape_of_one op s
shape_applied op (s ∷ t ∷ []) = shape_of_two op s t
shape_applied op (r ∷ s ∷ t ∷ []) = shape_of_three op r s t
shape_applied op _ = Number
