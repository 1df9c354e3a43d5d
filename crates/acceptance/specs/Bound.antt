-- The values that the parameters of a shader request are bound to (RenderMan Interface 3.2, section 11.3.3).
use Rattle.std.specs.Prelude.{ℕ, ℤ, pos, false, List, [], ◌∷◌, length, map, Option, Some, None, get_or, slice_get, codes, ◌≡◌, refl}
use Rattle.std.specs.List.{range_with_len}
use Rattle.fixed_math.specs.declared.vec3.Vec3.{Vec3}
use Rattle.transforms.specs.Map.{Map, identity, translation}
use Rattle.transforms.specs.declared.spaces.Spaces.{Spaces}
use Rattle.scene.specs.declared.params.Param.{Param}
use Rattle.scene.specs.declared.params.Values.{Values}
use Rattle.scene.specs.declared.params.Values.TheVariants.{Numbers, Strings}
use Rattle.rib_reader.specs.Holding.{last_named}
use Rattle.scene.specs.declared.uses.ShaderUse.{ShaderUse}
use Rattle.sl_ast.specs.declared.kinds.SlType.{SlType}
use Rattle.sl_ast.specs.declared.kinds.SlType.TheVariants as types
use Rattle.sl_ast.specs.declared.typed.Value.{Value}
use Rattle.sl_ast.specs.declared.typed.Value.TheVariants.{Number, Triple, Word}
use Rattle.sl_ast.specs.Typed.{Local, Tree}
use Rattle.builtins.specs.Table.{image}
use Rattle.sl_meaning.specs.Defaults.{default_of, no_local}

abbrev pub numbers_in : Values → List ℤ
numbers_in (Numbers xs) = xs
numbers_in (Strings ts) = []

abbrev pub words_in : Values → List (List ℕ)
words_in (Numbers xs) = []
words_in (Strings ts) = ts

abbrev pub number_or : Option ℤ → ℤ
number_or (Some x) = x
number_or None = pos 0

abbrev pub number_at : Values → ℕ → ℤ
number_at vs i = number_or (slice_get (numbers_in vs) i)

abbrev pub triple_in : Values → Vec3
triple_in vs = record { x = number_at vs 0; y = number_at vs 1; z = number_at vs 2 }

abbrev pub word_or : Option (List ℕ) → List ℕ
word_or (Some t) = t
word_or None = []

abbrev pub word_in : Values → List ℕ
word_in vs = word_or (slice_get (words_in vs) 0)

-- what is given for a parameter of that type: a point, a vector or a normal in shader space, which is mapped to camera space
abbrev pub given_value : SlType → Map → Values → Value
given_value types.Float space vs = Number (number_at vs 0)
given_value types.Str space vs = Word (word_in vs)
given_value kind space vs = Triple (image kind space (triple_in vs))

-- in a default the world's and the object's space can't be asked for, nor what a frame sees
abbrev pub default_spaces : Map → Spaces
default_spaces space = record { world = identity; object = identity; shader = space; near = pos 0; far = pos 0; flip = false }

-- the default of the parameter with that index
unfoldable pub default_in : Tree → Map → ℕ → Value
default_in tree space k = default_of tree k (default_spaces space)

-- the value of a parameter that is given, else its default
abbrev pub given_or : SlType → Map → Value → Option Param → Value
given_or kind space default (Some p) = given_value kind space p.values
given_or kind space default None = default

-- the parameter with number k of a shader
abbrev pub param_at : Tree → ℕ → Local
param_at tree k = get_or tree.params k no_local

-- the value of the parameter with that index: of the request's values of its name the last one, else the default
abbrev pub bound_value : Tree → ShaderUse → ℕ → Value
bound_value tree u k = given_or (param_at tree k).kind u.space (default_in tree u.space k) (last_named (param_at tree k).name u.params)

abbrev pub bound_values : Tree → ShaderUse → List Value
bound_values tree u = map (bound_value tree u) (range_with_len 0 (length tree.params))

-- worked values: a point is moved with shader space, a vector isn't, and a colour stays as it is
abbrev one_two_three : Values
one_two_three = Numbers (pos 65536 ∷ pos 131072 ∷ pos 196608 ∷ [])

abbrev one_along_x : Map
one_along_x = translation (pos 65536) (pos 0) (pos 0)

a_point : given_value types.Point one_along_x one_two_three ≡ Triple (record { x = pos 131072; y = pos 131072; z = pos 196608 })
a_point = refl

a_vector : given_value types.Vector one_along_x one_two_three ≡ Triple (record { x = pos 65536; y = pos 131072; z = pos 196608 })
a_vector = refl

a_colour : given_value types.Color one_along_x one_two_three ≡ Triple (record { x = pos 65536; y = pos 131072; z = pos 196608 })
a_colour = refl

a_word : given_value types.Str one_along_x (Strings (codes "shader" ∷ [])) ≡ Word (codes "shader")
a_word = refl
