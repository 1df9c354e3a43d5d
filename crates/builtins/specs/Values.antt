-- Values of the Shading Language: a number, a triple (a colour, point, vector or normal) or a text. A truth is the number 1 or 0.
use Rattle.std.specs.Prelude.{ℕ, zero, suc, ℤ, pos, negsuc, Bool, true, false, ◌&&◌, cond, List, [], ◌≡◌, refl}
use Rattle.std.specs.Ordering.{int_eq}
use Rattle.std.specs.Str.{bytes_eq}
use Rattle.fixed_math.specs.Axes.{origin, part_of, by_axes}
use Rattle.fixed_math.specs.declared.vec3.Vec3.{Vec3}
use Rattle.sl_ast.specs.declared.typed.Value.{Value}
use Rattle.sl_ast.specs.declared.typed.Value.TheVariants.{Number, Triple, Word}
use Rattle.sl_ast.specs.declared.kinds.SlType.{SlType}
use Rattle.sl_ast.specs.declared.kinds.SlType.TheVariants as types
use Rattle.builtins.specs.declared.shape.Shape.{Shape}
use Rattle.builtins.specs.declared.shape.Shape.TheVariants as shapes
use Rattle.builtins.specs.Triples.{each, each_two}

-- a value as a number: of a triple its first part
abbrev pub number_of : Value → ℤ
number_of (Number x) = x
number_of (Triple t) = t.x
number_of (Word w) = pos 0

-- a number stands for three equal parts
abbrev pub triple_of : Value → Vec3
triple_of (Number x) = by_axes (λ _. x)
triple_of (Triple t) = t
triple_of (Word w) = origin

-- a value as a text
abbrev pub word_of : Value → List ℕ
word_of (Word w) = w
word_of _ = []

-- the shape of the values of a type
abbrev pub shape_of : SlType → Shape
shape_of types.Float = shapes.Number
shape_of types.Str = shapes.Word
shape_of _ = shapes.Triple

-- a value where one of that shape is wanted, and where one of that type is
abbrev pub as_shape : Shape → Value → Value
as_shape shapes.Number v = Number (number_of v)
as_shape shapes.Triple v = Triple (triple_of v)
as_shape shapes.Word v = Word (word_of v)

-- a value where one of a type is wanted
abbrev pub as_kind : SlType → Value → Value
as_kind kind v = as_shape (shape_of kind) v

-- a truth as a number
abbrev pub truth : Bool → Value
truth holds = Number (cond holds (pos 65536) (pos 0))

-- a number counts as true unless it is 0
abbrev pub is_nonzero : ℤ → Bool
is_nonzero (pos zero) = false
is_nonzero (pos (suc n)) = true
is_nonzero (negsuc n) = true

-- whether a value counts as true: its number isn't 0
abbrev pub is_true : Value → Bool
is_true v = is_nonzero (number_of v)

-- a formula of numbers on values: on numbers as it is, and part by part where one of them is a triple
abbrev pub by_part : (ℤ → ℤ) → Value → Value
by_part f (Number x) = Number (f x)
by_part f v = Triple (each f (triple_of v))

-- a formula of two numbers on values: on numbers as it is, else part by part with numbers promoted
abbrev pub by_parts : (ℤ → ℤ → ℤ) → Value → Value → Value
by_parts f (Number x) (Number y) = Number (f x y)
by_parts f v w = Triple (each_two f (triple_of v) (triple_of w))

abbrev pub each_three : (ℤ → ℤ → ℤ → ℤ) → Vec3 → Vec3 → Vec3 → Vec3
each_three f a b c = by_axes (λ i. f (part_of i a) (part_of i b) (part_of i c))

-- the same of three numbers
abbrev pub by_three_parts : (ℤ → ℤ → ℤ → ℤ) → Value → Value → Value → Value
by_three_parts f (Number x) (Number y) (Number z) = Number (f x y z)
by_three_parts f u v w = Triple (each_three f (triple_of u) (triple_of v) (triple_of w))

-- all three parts are the same
abbrev pub same_triple : Vec3 → Vec3 → Bool
same_triple a b = int_eq a.x b.x && (int_eq a.y b.y && int_eq a.z b.z)

-- two values of one type, a number promoted beside a triple
abbrev pub is_same : Value → Value → Bool
is_same (Number x) (Number y) = int_eq x y
is_same (Word a) (Word b) = bytes_eq a b
is_same v w = same_triple (triple_of v) (triple_of w)

-- a value beside another one: a triple where the two are of different shapes
abbrev pub beside : Value → Value → Value
beside (Number x) (Number y) = Number y
beside (Word a) (Word b) = Word b
beside _ v = Triple (triple_of v)

-- one of two values, a triple where their shapes differ
abbrev pub chosen : Bool → Value → Value → Value
chosen holds v w = cond holds (beside w v) (beside v w)

-- worked values
gray : as_kind types.Color (Number (pos 7)) ≡ Triple (record { x = pos 7; y = pos 7; z = pos 7 })
gray = refl
