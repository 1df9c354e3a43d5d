-- The operations that are formulas of numbers, as families: those that go part by part where a triple stands, and those of numbers alone.
use Rattle.std.specs.Prelude.{ℤ, neg_ℤ, Bool, false, int_lt, int_le}
use Rattle.fixed_math.specs.Fixed.{add, sub, mul, div, sqrt}
use Rattle.fixed_math.specs.Sine.{sin, cos}
use Rattle.fixed_math.specs.Power.{exp}
use Rattle.sl_ast.specs.declared.operations.ValueOperation.{ValueOperation}
use Rattle.sl_ast.specs.declared.operations.ValueOperation.TheVariants as ops
use Rattle.builtins.specs.Numbers as n

-- part by part
abbrev pub part : ValueOperation → ℤ → ℤ
part ops.Negate x = neg_ℤ x
part ops.Abs x = n.abs x
part ops.Sign x = n.sign x
part ops.Floor x = n.floor x
part ops.Ceil x = n.ceil x
part ops.Round x = n.round x
part _ x = x

abbrev pub parts : ValueOperation → ℤ → ℤ → ℤ
parts ops.Add x y = add x y
parts ops.Subtract x y = sub x y
parts ops.Multiply x y = mul x y
parts ops.Divide x y = div x y
parts ops.Min x y = n.min x y
parts ops.Max x y = n.max x y
parts ops.Mod x y = n.modulo x y
parts _ x y = x

abbrev pub three_parts : ValueOperation → ℤ → ℤ → ℤ → ℤ
three_parts ops.Clamp x y z = n.clamp x y z
three_parts ops.Mix x y z = n.mix x y z
three_parts _ x y z = x

-- of numbers alone
abbrev pub number : ValueOperation → ℤ → ℤ
number ops.Sin x = sin x
number ops.Cos x = cos x
number ops.Tan x = n.tan x
number ops.Sqrt x = sqrt x
number ops.InverseSqrt x = n.inversesqrt x
number ops.Exp x = exp x
number ops.Log x = n.log x
number ops.Radians x = n.radians x
number ops.Degrees x = n.degrees x
number _ x = x

abbrev pub order : ValueOperation → ℤ → ℤ → Bool
order ops.Less x y = int_lt x y
order ops.LessEqual x y = int_le x y
order ops.Greater x y = int_lt y x
order ops.GreaterEqual x y = int_le y x
order _ x y = false
