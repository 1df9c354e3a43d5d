-- The table of values gives values of the shapes that the table of shapes says.
use Rattle.std.proofs.Common.{◌≡◌, refl, List, [], ◌∷◌, map, ℤ, neg_ℤ, Bool, true, false, ap, ◌∙◌}
use Rattle.fixed_math.specs.Fixed.{add, sub, mul, div}
use Rattle.transforms.specs.declared.spaces.Spaces.{Spaces}
use Rattle.sl_ast.specs.declared.kinds.SlType.{SlType}
use Rattle.sl_ast.specs.declared.kinds.SlType.TheVariants as types
use Rattle.sl_ast.specs.declared.kinds.SpaceName.{SpaceName}
use Rattle.sl_ast.specs.declared.operations.ValueOperation.{ValueOperation}
use Rattle.sl_ast.specs.declared.operations.ValueOperation.TheVariants as ops
use Rattle.sl_ast.specs.declared.typed.Value.{Value}
use Rattle.sl_ast.specs.declared.typed.Value.TheVariants.{Number, Triple, Word}
use Rattle.builtins.specs.declared.shape.Shape.{Shape}
use Rattle.builtins.specs.declared.shape.Shape.TheVariants as shapes
use Rattle.builtins.specs.Numbers as n
use Rattle.builtins.specs.Values.{number_of, is_true, shape_of, as_shape, by_part, by_parts, by_three_parts, beside, chosen}
use Rattle.builtins.specs.Table.{noise_of, placed, of_one, of_two, of_three, applied}
use Rattle.builtins.specs.Shapes.{shape, part_shape, joined, alike, shape_of_one, shape_of_two, shape_of_three, shape_applied}

pub as_shape_has : (s : Shape) (v : Value) → shape (as_shape s v) ≡ s
as_shape_has shapes.Number v = refl
as_shape_has shapes.Triple v = refl
as_shape_has shapes.Word v = refl

by_part_has : (f : ℤ → ℤ) (v : Value) → shape (by_part f v) ≡ part_shape (shape v)
by_part_has f (Number x) = refl
by_part_has f (Triple t) = refl
by_part_has f (Word w) = refl

by_parts_has : (f : ℤ → ℤ → ℤ) (v w : Value) → shape (by_parts f v w) ≡ joined (shape v) (shape w)
by_parts_has f (Number x) (Number y) = refl
by_parts_has f (Number x) (Triple t) = refl
by_parts_has f (Number x) (Word b) = refl
by_parts_has f (Triple t) w = refl
by_parts_has f (Word b) w = refl

by_three_parts_has : (f : ℤ → ℤ → ℤ → ℤ) (u v w : Value) → shape (by_three_parts f u v w) ≡ joined (joined (shape u) (shape v)) (shape w)
by_three_parts_has f (Number x) (Number y) (Number z) = refl
by_three_parts_has f (Number x) (Number y) (Triple t) = refl
by_three_parts_has f (Number x) (Number y) (Word b) = refl
by_three_parts_has f (Number x) (Triple t) w = refl
by_three_parts_has f (Number x) (Word b) w = refl
by_three_parts_has f (Triple t) v w = refl
by_three_parts_has f (Word b) v w = refl

twice_by_parts_has : (f : ℤ → ℤ → ℤ) (u v w : Value) → shape (by_parts f (by_parts f u v) w) ≡ joined (joined (shape u) (shape v)) (shape w)
twice_by_parts_has f u v w = by_parts_has f (by_parts f u v) w ∙ ap (λ s. joined s (shape w)) (by_parts_has f u v)

beside_has : (v w : Value) → shape (beside v w) ≡ alike (shape v) (shape w)
beside_has (Number x) (Number y) = refl
beside_has (Number x) (Triple t) = refl
beside_has (Number x) (Word b) = refl
beside_has (Triple t) w = refl
beside_has (Word a) (Number y) = refl
beside_has (Word a) (Triple t) = refl
beside_has (Word a) (Word b) = refl

alike-comm : (s t : Shape) → alike s t ≡ alike t s
alike-comm shapes.Number shapes.Number = refl
alike-comm shapes.Number shapes.Triple = refl
alike-comm shapes.Number shapes.Word = refl
alike-comm shapes.Triple shapes.Number = refl
alike-comm shapes.Triple shapes.Triple = refl
alike-comm shapes.Triple shapes.Word = refl
alike-comm shapes.Word shapes.Number = refl
alike-comm shapes.Word shapes.Triple = refl
alike-comm shapes.Word shapes.Word = refl

chosen_has : (holds : Bool) (v w : Value) → shape (chosen holds v w) ≡ alike (shape v) (shape w)
chosen_has true v w = beside_has w v ∙ alike-comm (shape w) (shape v)
chosen_has false v w = beside_has v w

placed_has : (kind : SlType) (sp : Spaces) (from : SpaceName) (v : Value) → shape (placed kind sp from v) ≡ shape_of kind
placed_has types.Float sp from v = refl
placed_has types.Color sp from v = refl
placed_has types.Point sp from v = refl
placed_has types.Vector sp from v = refl
placed_has types.Normal sp from v = refl
placed_has types.Str sp from v = refl

noise_of_has : (v : Value) → shape (noise_of v) ≡ shapes.Number
noise_of_has (Number x) = refl
noise_of_has (Triple t) = refl
noise_of_has (Word w) = refl

of_one_has : (op : ValueOperation) (sp : Spaces) (v : Value) → shape (of_one op sp v) ≡ shape_of_one op (shape v)
unfolding of_one
of_one_has ops.Negate sp v = by_part_has neg_ℤ v
of_one_has ops.Not sp v = refl
of_one_has ops.Or sp v = refl
of_one_has ops.And sp v = refl
of_one_has ops.Equal sp v = refl
of_one_has ops.NotEqual sp v = refl
of_one_has ops.Less sp v = refl
of_one_has ops.LessEqual sp v = refl
of_one_has ops.Greater sp v = refl
of_one_has ops.GreaterEqual sp v = refl
of_one_has ops.Add sp v = refl
of_one_has ops.Subtract sp v = refl
of_one_has ops.Cross sp v = refl
of_one_has ops.Multiply sp v = refl
of_one_has ops.Divide sp v = refl
of_one_has ops.Dot sp v = refl
of_one_has ops.Select sp v = refl
of_one_has (ops.Triple kind from) sp v = refl
of_one_has (ops.Convert kind from) sp v = placed_has kind sp from v
of_one_has ops.Abs sp v = by_part_has n.abs v
of_one_has ops.Sign sp v = by_part_has n.sign v
of_one_has ops.Floor sp v = by_part_has n.floor v
of_one_has ops.Ceil sp v = by_part_has n.ceil v
of_one_has ops.Round sp v = by_part_has n.round v
of_one_has ops.Min sp v = refl
of_one_has ops.Max sp v = refl
of_one_has ops.Clamp sp v = refl
of_one_has ops.Mod sp v = refl
of_one_has ops.Mix sp v = refl
of_one_has ops.Sin sp v = refl
of_one_has ops.Cos sp v = refl
of_one_has ops.Tan sp v = refl
of_one_has ops.Sqrt sp v = refl
of_one_has ops.InverseSqrt sp v = refl
of_one_has ops.Pow sp v = refl
of_one_has ops.Exp sp v = refl
of_one_has ops.Log sp v = refl
of_one_has ops.Radians sp v = refl
of_one_has ops.Degrees sp v = refl
of_one_has ops.Step sp v = refl
of_one_has ops.SmoothStep sp v = refl
of_one_has ops.XComp sp v = refl
of_one_has ops.YComp sp v = refl
of_one_has ops.ZComp sp v = refl
of_one_has ops.Comp sp v = refl
of_one_has ops.Length sp v = refl
of_one_has ops.Distance sp v = refl
of_one_has ops.Normalize sp v = refl
of_one_has ops.Reflect sp v = refl
of_one_has ops.FaceForward sp v = refl
of_one_has (ops.Transform from into) sp v = refl
of_one_has (ops.VTransform from into) sp v = refl
of_one_has (ops.NTransform from into) sp v = refl
of_one_has ops.Depth sp v = refl
of_one_has ops.Noise sp v = noise_of_has v

of_two_has : (op : ValueOperation) (v w : Value) → shape (of_two op v w) ≡ shape_of_two op (shape v) (shape w)
unfolding of_two
of_two_has ops.Negate v w = refl
of_two_has ops.Not v w = refl
of_two_has ops.Or v w = refl
of_two_has ops.And v w = refl
of_two_has ops.Equal v w = refl
of_two_has ops.NotEqual v w = refl
of_two_has ops.Less v w = refl
of_two_has ops.LessEqual v w = refl
of_two_has ops.Greater v w = refl
of_two_has ops.GreaterEqual v w = refl
of_two_has ops.Add v w = by_parts_has add v w
of_two_has ops.Subtract v w = by_parts_has sub v w
of_two_has ops.Cross v w = refl
of_two_has ops.Multiply v w = by_parts_has mul v w
of_two_has ops.Divide v w = by_parts_has div v w
of_two_has ops.Dot v w = refl
of_two_has ops.Select v w = refl
of_two_has (ops.Triple kind from) v w = refl
of_two_has (ops.Convert kind from) v w = refl
of_two_has ops.Abs v w = refl
of_two_has ops.Sign v w = refl
of_two_has ops.Floor v w = refl
of_two_has ops.Ceil v w = refl
of_two_has ops.Round v w = refl
of_two_has ops.Min v w = by_parts_has n.min v w
of_two_has ops.Max v w = by_parts_has n.max v w
of_two_has ops.Clamp v w = refl
of_two_has ops.Mod v w = by_parts_has n.modulo v w
of_two_has ops.Mix v w = refl
of_two_has ops.Sin v w = refl
of_two_has ops.Cos v w = refl
of_two_has ops.Tan v w = refl
of_two_has ops.Sqrt v w = refl
of_two_has ops.InverseSqrt v w = refl
of_two_has ops.Pow v w = refl
of_two_has ops.Exp v w = refl
of_two_has ops.Log v w = refl
of_two_has ops.Radians v w = refl
of_two_has ops.Degrees v w = refl
of_two_has ops.Step v w = refl
of_two_has ops.SmoothStep v w = refl
of_two_has ops.XComp v w = refl
of_two_has ops.YComp v w = refl
of_two_has ops.ZComp v w = refl
of_two_has ops.Comp v w = refl
of_two_has ops.Length v w = refl
of_two_has ops.Distance v w = refl
of_two_has ops.Normalize v w = refl
of_two_has ops.Reflect v w = refl
of_two_has ops.FaceForward v w = refl
of_two_has (ops.Transform from into) v w = refl
of_two_has (ops.VTransform from into) v w = refl
of_two_has (ops.NTransform from into) v w = refl
of_two_has ops.Depth v w = refl
of_two_has ops.Noise v w = refl

of_three_has : (op : ValueOperation) (sp : Spaces) (u v w : Value) → shape (of_three op sp u v w) ≡ shape_of_three op (shape u) (shape v) (shape w)
unfolding of_three
of_three_has ops.Negate sp u v w = refl
of_three_has ops.Not sp u v w = refl
of_three_has ops.Or sp u v w = refl
of_three_has ops.And sp u v w = refl
of_three_has ops.Equal sp u v w = refl
of_three_has ops.NotEqual sp u v w = refl
of_three_has ops.Less sp u v w = refl
of_three_has ops.LessEqual sp u v w = refl
of_three_has ops.Greater sp u v w = refl
of_three_has ops.GreaterEqual sp u v w = refl
of_three_has ops.Add sp u v w = refl
of_three_has ops.Subtract sp u v w = refl
of_three_has ops.Cross sp u v w = refl
of_three_has ops.Multiply sp u v w = refl
of_three_has ops.Divide sp u v w = refl
of_three_has ops.Dot sp u v w = refl
of_three_has ops.Select sp u v w = chosen_has (is_true u) v w
of_three_has (ops.Triple kind from) sp u v w = placed_has kind sp from (Triple (record { x = number_of u; y = number_of v; z = number_of w }))
of_three_has (ops.Convert kind from) sp u v w = refl
of_three_has ops.Abs sp u v w = refl
of_three_has ops.Sign sp u v w = refl
of_three_has ops.Floor sp u v w = refl
of_three_has ops.Ceil sp u v w = refl
of_three_has ops.Round sp u v w = refl
of_three_has ops.Min sp u v w = twice_by_parts_has n.min u v w
of_three_has ops.Max sp u v w = twice_by_parts_has n.max u v w
of_three_has ops.Clamp sp u v w = by_three_parts_has n.clamp u v w
of_three_has ops.Mod sp u v w = refl
of_three_has ops.Mix sp u v w = by_three_parts_has n.mix u v w
of_three_has ops.Sin sp u v w = refl
of_three_has ops.Cos sp u v w = refl
of_three_has ops.Tan sp u v w = refl
of_three_has ops.Sqrt sp u v w = refl
of_three_has ops.InverseSqrt sp u v w = refl
of_three_has ops.Pow sp u v w = refl
of_three_has ops.Exp sp u v w = refl
of_three_has ops.Log sp u v w = refl
of_three_has ops.Radians sp u v w = refl
of_three_has ops.Degrees sp u v w = refl
of_three_has ops.Step sp u v w = refl
of_three_has ops.SmoothStep sp u v w = refl
of_three_has ops.XComp sp u v w = refl
of_three_has ops.YComp sp u v w = refl
of_three_has ops.ZComp sp u v w = refl
of_three_has ops.Comp sp u v w = refl
of_three_has ops.Length sp u v w = refl
of_three_has ops.Distance sp u v w = refl
of_three_has ops.Normalize sp u v w = refl
of_three_has ops.Reflect sp u v w = refl
of_three_has ops.FaceForward sp u v w = refl
of_three_has (ops.Transform from into) sp u v w = refl
of_three_has (ops.VTransform from into) sp u v w = refl
of_three_has (ops.NTransform from into) sp u v w = refl
of_three_has ops.Depth sp u v w = refl
of_three_has ops.Noise sp u v w = refl

pub applied_has : (op : ValueOperation) (sp : Spaces) (vs : List Value) → shape (applied op sp vs) ≡ shape_applied op (map shape vs)
applied_has op sp [] = refl
applied_has op sp (v ∷ []) = of_one_has op sp v
applied_has op sp (v ∷ w ∷ []) = of_two_has op v w
applied_has op sp (u ∷ v ∷ w ∷ []) = of_three_has op sp u v w
applied_has op sp (u ∷ v ∷ w ∷ x ∷ rest) = refl
