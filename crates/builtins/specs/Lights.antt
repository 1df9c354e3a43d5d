-- Lights as a surface sees them at a point (RenderMan Interface 3.2, Shading Language, sections 13 and 14).
use Rattle.std.specs.Prelude.{ℤ, pos, Bool, true, int_le, cond, List, [], ◌∷◌, map, Option, Some, None}
use Rattle.std.specs.List.{fold, filter, filter_map}
use Rattle.fixed_math.specs.Fixed.{add, mul, div}
use Rattle.fixed_math.specs.Sine.{cos}
use Rattle.fixed_math.specs.Power.{pow}
use Rattle.fixed_math.specs.Axes.{origin}
use Rattle.fixed_math.specs.declared.vec3.Vec3.{Vec3}
use Rattle.sl_ast.specs.declared.operations.LightSum.{LightSum}
use Rattle.sl_ast.specs.declared.operations.LightSum.TheVariants as sums
use Rattle.sl_ast.specs.declared.typed.Value.{Value}
use Rattle.sl_ast.specs.declared.typed.Value.TheVariants.{Triple}
use Rattle.builtins.specs.Numbers.{max}
use Rattle.builtins.specs.Triples.{each, each_two, dot, normalize, negated}
use Rattle.builtins.specs.Values.{number_of, triple_of}

-- a light's answer at a point: the colour of an ambient one; nothing; or the direction from it to the point, and its colour
pub data Light : Type 0 where
  ambient : Vec3 → Light
  unlit : Light
  lit : Vec3 → Vec3 → Light

-- the product of the units of two directions: the cosine between them
abbrev pub facing : Vec3 → Vec3 → ℤ
facing a b = dot (normalize a) (normalize b)

-- a direction lies in a cone, by its axis and its angle; where no cone is given, it does
abbrev pub is_in_cone : List Value → Vec3 → Bool
is_in_cone (axis ∷ angle ∷ []) l = int_le (cos (number_of angle)) (facing l (triple_of axis))
is_in_cone _ l = true

-- what a surface sees of a light that isn't ambient, within a cone where one is given: the direction to it and its colour
abbrev pub kept : List Value → Vec3 × Vec3 → Option (Vec3 × Vec3)
kept cone light = cond (is_in_cone cone light.0) (Some light) None

abbrev pub shown : List Value → Light → Option (Vec3 × Vec3)
shown cone (ambient cl) = None
shown cone unlit = None
shown cone (lit l cl) = kept cone (negated l, cl)

-- those of all lights, in their order
abbrev pub seen : List Value → List Light → List (Vec3 × Vec3)
seen cone ls = filter_map (shown cone) ls

-- a colour times a number
abbrev pub scaled_by : ℤ → Vec3 → Vec3
scaled_by k c = each (λ x. mul x k) c

-- the colours of the ambient ones
abbrev pub ambients : List Light → List Vec3
ambients [] = []
ambients (ambient cl ∷ rest) = cl ∷ ambients rest
ambients (unlit ∷ rest) = ambients rest
ambients (lit l cl ∷ rest) = ambients rest

-- colours added one after another
abbrev pub total : List Vec3 → Vec3
total cs = fold (λ c d. each_two add c d) origin cs

-- what a light adds to `diffuse`: its colour times the cosine, where that is above 0
abbrev pub diffused : Vec3 → Vec3 × Vec3 → Vec3
diffused n light = scaled_by (max (pos 0) (facing light.0 n)) light.1

-- how much a mirror of that roughness throws of a light towards v
abbrev pub highlight : Vec3 → Vec3 → ℤ → Vec3 → ℤ
highlight n v r l = pow (max (pos 0) (facing n (each_two add (normalize l) v))) (div (pos 65536) r)

-- what a light adds to `specular`
abbrev pub thrown : Vec3 → Vec3 → ℤ → Vec3 × Vec3 → Vec3
thrown n v r light = scaled_by (highlight n v r light.0) light.1

-- the light lies on the side to which the normal points, or on its plane
abbrev pub is_before : Vec3 → Vec3 × Vec3 → Bool
is_before n light = int_le (pos 0) (facing light.0 n)

-- the sum over the lights before the surface
abbrev pub specular : Vec3 → Vec3 → ℤ → List (Vec3 × Vec3) → Vec3
specular n v r lights = total (map (thrown n v r) (filter (is_before n) lights))

-- a sum over the lights' answers
abbrev pub sum_of : LightSum → List Value → List Light → Value
sum_of sums.Ambient _ ls = Triple (total (ambients ls))
sum_of sums.Diffuse (n ∷ []) ls = Triple (total (map (diffused (triple_of n)) (seen [] ls)))
sum_of sums.Specular (n ∷ v ∷ r ∷ []) ls = Triple (specular (triple_of n) (triple_of v) (number_of r) (seen [] ls))
sum_of _ _ ls = Triple origin
