-- The value of each operator, conversion and built-in function whose value is a function of its operands' values (RenderMan Interface
-- 3.2, Shading Language, sections 12 and 15).
use Rattle.std.specs.Prelude.{ℤ, pos, neg_ℤ, Bool, not, ◌&&◌, ◌||◌, int_lt, int_le, List, [], ◌∷◌, ◌≡◌, refl}
use Rattle.fixed_math.specs.Fixed.{sat, add, sub, mul, div, sqrt}
use Rattle.fixed_math.specs.Sine.{sin, cos}
use Rattle.fixed_math.specs.Power.{exp, pow}
use Rattle.fixed_math.specs.Axes.{origin}
use Rattle.fixed_math.specs.declared.vec3.Vec3.{Vec3}
use Rattle.transforms.specs.Map.{Map, point_of, vector_of, normal_of, inverse_of}
use Rattle.transforms.specs.declared.spaces.Spaces.{Spaces}
use Rattle.sl_ast.specs.declared.kinds.SlType.{SlType}
use Rattle.sl_ast.specs.declared.kinds.SlType.TheVariants as types
use Rattle.sl_ast.specs.declared.kinds.SpaceName.{SpaceName}
use Rattle.sl_ast.specs.declared.kinds.SpaceName.TheVariants as spaces
use Rattle.sl_ast.specs.declared.operations.ValueOperation.{ValueOperation}
use Rattle.sl_ast.specs.declared.operations.ValueOperation.TheVariants as ops
use Rattle.sl_ast.specs.declared.typed.Value.{Value}
use Rattle.sl_ast.specs.declared.typed.Value.TheVariants.{Number, Triple}
use Rattle.builtins.specs.Numbers as n
use Rattle.builtins.specs.Triples as t
use Rattle.builtins.specs.Noise.{noise}
use Rattle.builtins.specs.Values.{number_of, triple_of, as_kind, truth, is_true, by_part, by_parts, by_three_parts, is_same, chosen}

-- coordinates put into the range of raws
abbrev pub saturated : List ℤ → Vec3
saturated (x ∷ y ∷ z ∷ []) = record { x = sat x; y = sat y; z = sat z }
saturated _ = origin

-- how the coordinates of a point, a vector or a normal go through a map
abbrev pub image : SlType → Map → Vec3 → Vec3
image types.Point m p = saturated (point_of m p)
image types.Vector m p = saturated (vector_of m p)
image types.Normal m p = saturated (normal_of m p)
image _ m p = p

-- from a space to camera space, and from camera space to it; the current space is camera space
abbrev pub from_space : SlType → Spaces → SpaceName → Vec3 → Vec3
from_space kind sp spaces.Current p = p
from_space kind sp spaces.World p = image kind sp.world p
from_space kind sp spaces.Object p = image kind sp.object p
from_space kind sp spaces.Shader p = image kind sp.shader p

-- a point, vector or normal from camera space into a named one
abbrev pub into_space : SlType → Spaces → SpaceName → Vec3 → Vec3
into_space kind sp spaces.Current p = p
into_space kind sp spaces.World p = image kind (inverse_of sp.world) p
into_space kind sp spaces.Object p = image kind (inverse_of sp.object) p
into_space kind sp spaces.Shader p = image kind (inverse_of sp.shader) p

-- the same from one named space into another
abbrev pub through : SlType → Spaces → SpaceName → SpaceName → Value → Value
through kind sp from into v = Triple (into_space kind sp into (from_space kind sp from (triple_of v)))

-- a value of that type whose triple was given in that space
abbrev pub placed : SlType → Spaces → SpaceName → Value → Value
placed types.Float sp from v = as_kind types.Float v
placed types.Str sp from v = as_kind types.Str v
placed kind sp from v = Triple (from_space kind sp from (triple_of v))

-- numbers of numbers, and numbers of triples
abbrev pub on_number : (ℤ → ℤ) → Value → Value
on_number f v = Number (f (number_of v))

-- a formula of two numbers on values
abbrev pub on_numbers : (ℤ → ℤ → ℤ) → Value → Value → Value
on_numbers f v w = Number (f (number_of v) (number_of w))

-- a formula of a triple on a value
abbrev pub on_triple : (Vec3 → ℤ) → Value → Value
on_triple f v = Number (f (triple_of v))

-- a formula of two triples on values
abbrev pub on_triples : (Vec3 → Vec3 → ℤ) → Value → Value → Value
on_triples f v w = Number (f (triple_of v) (triple_of w))

-- a comparison of two numbers on values
abbrev pub compare : (ℤ → ℤ → Bool) → Value → Value → Value
compare f v w = truth (f (number_of v) (number_of w))

-- a number is a place on the first axis
abbrev pub noise_of : Value → Value
noise_of (Number x) = Number (noise (record { x = x; y = pos 0; z = pos 0 }))
noise_of v = Number (noise (triple_of v))

-- what an operation makes of its operands, by how many of them it takes
pub data Formula : Type 0 where
  one : (Spaces → Value → Value) → Formula
  two : (Value → Value → Value) → Formula
  three : (Spaces → Value → Value → Value → Value) → Formula
  one_or_two : (Value → Value) → (Value → Value → Value) → Formula
  two_or_three : (Value → Value → Value) → (Value → Value → Value → Value) → Formula

-- the formula of each operation
abbrev pub formula_of : ValueOperation → Formula
formula_of ops.Negate = one (λ sp v. by_part neg_ℤ v)
formula_of ops.Not = one (λ sp v. truth (not (is_true v)))
formula_of ops.Or = two (λ v w. truth (is_true v || is_true w))
formula_of ops.And = two (λ v w. truth (is_true v && is_true w))
formula_of ops.Equal = two (λ v w. truth (is_same v w))
formula_of ops.NotEqual = two (λ v w. truth (not (is_same v w)))
formula_of ops.Less = two (λ v w. compare int_lt v w)
formula_of ops.LessEqual = two (λ v w. compare int_le v w)
formula_of ops.Greater = two (λ v w. compare int_lt w v)
formula_of ops.GreaterEqual = two (λ v w. compare int_le w v)
formula_of ops.Add = two (λ v w. by_parts add v w)
formula_of ops.Subtract = two (λ v w. by_parts sub v w)
formula_of ops.Cross = two (λ v w. Triple (t.cross (triple_of v) (triple_of w)))
formula_of ops.Multiply = two (λ v w. by_parts mul v w)
formula_of ops.Divide = two (λ v w. by_parts div v w)
formula_of ops.Dot = two (λ v w. on_triples t.dot v w)
formula_of ops.Select = three (λ sp u v w. chosen (is_true u) v w)
formula_of (ops.Triple kind from) = three (λ sp u v w. placed kind sp from (Triple (record { x = number_of u; y = number_of v; z = number_of w })))
formula_of (ops.Convert kind from) = one (λ sp v. placed kind sp from v)
formula_of ops.Abs = one (λ sp v. by_part n.abs v)
formula_of ops.Sign = one (λ sp v. by_part n.sign v)
formula_of ops.Floor = one (λ sp v. by_part n.floor v)
formula_of ops.Ceil = one (λ sp v. by_part n.ceil v)
formula_of ops.Round = one (λ sp v. by_part n.round v)
formula_of ops.Min = two_or_three (λ v w. by_parts n.min v w) (λ u v w. by_parts n.min (by_parts n.min u v) w)
formula_of ops.Max = two_or_three (λ v w. by_parts n.max v w) (λ u v w. by_parts n.max (by_parts n.max u v) w)
formula_of ops.Clamp = three (λ sp u v w. by_three_parts n.clamp u v w)
formula_of ops.Mod = two (λ v w. by_parts n.modulo v w)
formula_of ops.Mix = three (λ sp u v w. by_three_parts n.mix u v w)
formula_of ops.Sin = one (λ sp v. on_number sin v)
formula_of ops.Cos = one (λ sp v. on_number cos v)
formula_of ops.Tan = one (λ sp v. on_number n.tan v)
formula_of ops.Sqrt = one (λ sp v. on_number sqrt v)
formula_of ops.InverseSqrt = one (λ sp v. on_number n.inversesqrt v)
formula_of ops.Pow = two (λ v w. on_numbers pow v w)
formula_of ops.Exp = one (λ sp v. on_number exp v)
formula_of ops.Log = one (λ sp v. on_number n.log v)
formula_of ops.Radians = one (λ sp v. on_number n.radians v)
formula_of ops.Degrees = one (λ sp v. on_number n.degrees v)
formula_of ops.Step = two (λ v w. on_numbers n.step v w)
formula_of ops.SmoothStep = three (λ sp u v w. Number (n.smoothstep (number_of u) (number_of v) (number_of w)))
formula_of ops.XComp = one (λ sp v. on_triple (λ p. p.x) v)
formula_of ops.YComp = one (λ sp v. on_triple (λ p. p.y) v)
formula_of ops.ZComp = one (λ sp v. on_triple (λ p. p.z) v)
formula_of ops.Comp = two (λ v w. Number (t.comp (triple_of v) (number_of w)))
formula_of ops.Length = one (λ sp v. on_triple t.length v)
formula_of ops.Distance = two (λ v w. on_triples t.distance v w)
formula_of ops.Normalize = one (λ sp v. Triple (t.normalize (triple_of v)))
formula_of ops.Reflect = two (λ v w. Triple (t.reflect (triple_of v) (triple_of w)))
formula_of ops.FaceForward = three (λ sp u v w. Triple (t.faceforward (triple_of u) (triple_of v) (triple_of w)))
formula_of (ops.Transform from into) = one (λ sp v. through types.Point sp from into v)
formula_of (ops.VTransform from into) = one (λ sp v. through types.Vector sp from into v)
formula_of (ops.NTransform from into) = one (λ sp v. through types.Normal sp from into v)
formula_of ops.Depth = one (λ sp v. on_triple (λ p. t.depth p sp.near sp.far) v)
formula_of ops.Noise = one_or_two (λ v. noise_of v) (λ v w. Number (noise (record { x = number_of v; y = number_of w; z = pos 0 })))

-- a formula on so many operands. Well-typed trees give each operation as many as it takes; of another number of them it gives the first.
abbrev pub taking_one : Formula → Spaces → Value → Value
taking_one (one f) sp v = f sp v
taking_one (one_or_two f g) sp v = f v
taking_one (two f) sp v = v
taking_one (three f) sp v = v
taking_one (two_or_three f g) sp v = v

abbrev pub taking_two : Formula → Value → Value → Value
taking_two (two f) v w = f v w
taking_two (one_or_two f g) v w = g v w
taking_two (two_or_three f g) v w = f v w
taking_two (one f) v w = v
taking_two (three f) v w = v

abbrev pub taking_three : Formula → Spaces → Value → Value → Value → Value
taking_three (three f) sp u v w = f sp u v w
taking_three (two_or_three f g) sp u v w = g u v w
taking_three (one f) sp u v w = u
taking_three (two f) sp u v w = u
taking_three (one_or_two f g) sp u v w = u

-- an operation on one operand
unfoldable pub of_one : ValueOperation → Spaces → Value → Value
of_one op sp v = taking_one (formula_of op) sp v

-- an operation on two operands
unfoldable pub of_two : ValueOperation → Value → Value → Value
of_two op v w = taking_two (formula_of op) v w

-- an operation on three operands
unfoldable pub of_three : ValueOperation → Spaces → Value → Value → Value → Value
of_three op sp u v w = taking_three (formula_of op) sp u v w

-- the value of an operation on its operands' values
abbrev pub applied : ValueOperation → Spaces → List Value → Value
applied op sp (v ∷ []) = of_one op sp v
applied op sp (v ∷ w ∷ []) = of_two op v w
applied op sp (u ∷ v ∷ w ∷ []) = of_three op sp u v w
applied op sp _ = Number (pos 0)

-- worked values: a number is promoted beside a colour
scaled_colour : (sp : Spaces) → applied ops.Multiply sp (Number (pos 32768) ∷ Triple (record { x = pos 65536; y = pos 2; z = pos 3 }) ∷ []) ≡ Triple (record { x = pos 32768; y = pos 1; z = pos 1 })
unfolding of_two
scaled_colour sp = refl
