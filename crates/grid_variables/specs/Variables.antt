-- The variables of primitives at the points of a leaf, and the predefined variables that shaders begin with there (RenderMan Interface 3.2,
-- section 5, primitive variables, and section 11, predefined shader variables).
use Rattle.std.specs.Prelude.{◌≡◌, refl, ℕ, ◌+◌, ◌*◌, ℤ, pos, neg_ℤ, Bool, true, false, cond, ◌||◌, List, [], ◌∷◌, Option, Some, None, get_or, codes}
use Rattle.std.specs.Option.{option_or}
use Rattle.std.specs.Str.{bytes_eq}
use Rattle.fixed_math.specs.Axes.{origin, part_of}
use Rattle.fixed_math.specs.declared.vec3.Axis.{Axis}
use Rattle.fixed_math.specs.declared.vec3.Axis.TheVariants as axes
use Rattle.fixed_math.specs.declared.vec3.Vec3.{Vec3}
use Rattle.patches.specs.Nets.{bilinear_point}
use Rattle.transforms.specs.Map.{Map, identity}
use Rattle.scene.specs.declared.params.Kind.{Kind}
use Rattle.scene.specs.declared.params.Kind.TheVariants as kinds
use Rattle.scene.specs.declared.params.Values.TheVariants as held
use Rattle.scene.specs.Scene.{VariableValue}
use Rattle.scene.specs.Seats.{numbers_of, text_of}
use Rattle.sl_ast.specs.declared.kinds.SlType.TheVariants as types
use Rattle.sl_ast.specs.declared.typed.Value.{Value}
use Rattle.sl_ast.specs.declared.typed.Value.TheVariants.{Number, Triple, Word}
use Rattle.sl_ast.specs.Typed.{Local}
use Rattle.builtins.specs.Table.{image}
use Rattle.builtins.specs.Triples.{normalize}
use Rattle.shader_binding.specs.Predefined.{sets_predefined}
use Rattle.grid_variables.specs.Points.{Leaf, own_u, own_v, u_at, v_at, normal_of, turned}

-- three numbers from place k on
abbrev pub triple_from : List ℤ → ℕ → Vec3
triple_from xs k = record { x = get_or xs k (pos 0); y = get_or xs (k + 1) (pos 0); z = get_or xs (k + 2) (pos 0) }

-- the value at corner k, of numbers that stand one behind another in object space, in camera space; a number, or two, as the first of three
abbrev pub corner : Kind → Map → List ℤ → ℕ → Vec3
corner kinds.Float m xs k = record { x = get_or xs k (pos 0); y = pos 0; z = pos 0 }
corner kinds.Pair m xs k = record { x = get_or xs (2 * k) (pos 0); y = get_or xs (2 * k + 1) (pos 0); z = pos 0 }
corner kinds.Point m xs k = image types.Point m (triple_from xs (3 * k))
corner kinds.Vector m xs k = image types.Vector m (triple_from xs (3 * k))
corner kinds.Normal m xs k = image types.Normal m (triple_from xs (3 * k))
corner kind m xs k = triple_from xs (3 * k)

-- those at the four corners, in the order of a bilinear patch, turned over where that is asked
abbrev pub corners_of : Bool → Kind → Map → List ℤ → List Vec3
corners_of over kind m xs = turned over (corner kind m xs 0) ∷ turned over (corner kind m xs 1) ∷ turned over (corner kind m xs 2) ∷ turned over (corner kind m xs 3) ∷ []

-- at the parameters u and v of the patch: the one value, or the point of the bilinear patch of the four, rounded down once
abbrev pub between : Bool → List Vec3 → ℕ → ℕ → Vec3
between false cs u v = get_or cs 0 origin
between true cs u v = bilinear_point cs u v

-- a variable's value at place i of a leaf
abbrev pub spread_by : Bool → Leaf → VariableValue → ℕ → Vec3
spread_by over l x i = between x.varying (corners_of over x.kind l.prim.object (numbers_of x.values)) (own_u l i) (own_v l i)

-- the numbers of a variable at place i
abbrev pub spread : Leaf → VariableValue → ℕ → Vec3
spread l x i = spread_by false l x i

-- the last of some variables that passes a test
abbrev pub last_passing : (VariableValue → Bool) → List VariableValue → Option VariableValue
last_passing test [] = None
last_passing test (x ∷ xs) = option_or (last_passing test xs) (cond (test x) (Some x) None)

-- the last variable of a name
abbrev pub variable_named : List ℕ → List VariableValue → Option VariableValue
variable_named name xs = last_passing (λ x. bytes_eq x.name name) xs

-- s and t are set by variables of their names, and both by st
abbrev pub is_pair : VariableValue → Bool
is_pair x = bytes_eq x.name (codes "st")

-- the last variable that sets s or t: of its name, or `st`
abbrev pub setter : List ℕ → List VariableValue → Option VariableValue
setter name xs = last_passing (λ x. bytes_eq x.name name || is_pair x) xs

-- ---- what predefined variables begin with
-- the primitive's colour and opacity, where no variable sets them
abbrev pub triple_or : Leaf → ℕ → Option VariableValue → Vec3 → Vec3
triple_or l i None t = t
triple_or l i (Some x) t = spread l x i

-- what Cs begins with at place i: the primitive's own, else the colour in force
abbrev pub cs_at : Leaf → ℕ → Vec3
cs_at l i = triple_or l i (variable_named (codes "Cs") l.prim.vars) l.prim.cs

-- what Os begins with: the primitive's own, else the opacity in force
abbrev pub os_at : Leaf → ℕ → Vec3
os_at l i = triple_or l i (variable_named (codes "Os") l.prim.vars) l.prim.os

-- s and t: by the last variable that sets them, else u and v
abbrev pub texture_part : Axis → Bool → Vec3 → ℤ
texture_part a pair p = cond pair (part_of a p) p.x

abbrev pub texture_or : Axis → Leaf → ℕ → Option VariableValue → ℤ → ℤ
texture_or a l i None z = z
texture_or a l i (Some x) z = texture_part a (is_pair x) (spread l x i)

-- what s begins with: what the last variable that sets it gives, else u
abbrev pub s_at : Leaf → ℕ → ℤ
s_at l i = texture_or axes.X l i (setter (codes "s") l.prim.vars) (u_at l i)

-- what t begins with, likewise, else v
abbrev pub t_at : Leaf → ℕ → ℤ
t_at l i = texture_or axes.Y l i (setter (codes "t") l.prim.vars) (v_at l i)

-- the given normal, turned at the corners where the map to camera space turns left into right, and of length 1 at each point; else the geometric
-- one. It is turned over where the primitive is.
abbrev pub given_normal : Leaf → VariableValue → ℕ → Vec3
given_normal l x i = turned l.prim.flip (normalize (spread_by l.prim.object.mirrored l x i))

abbrev pub normal_or : Leaf → ℕ → Option VariableValue → Vec3
normal_or l i None = normal_of l i
normal_or l i (Some x) = given_normal l x i

-- what N begins with: the primitive's own of unit length, else Ng
abbrev pub n_at : Leaf → ℕ → Vec3
n_at l i = normal_or l i (variable_named (codes "N") l.prim.vars)

-- ---- what the parameters of a surface, displacement or volume take
abbrev pub bound_variable : List ℕ → List VariableValue → Option VariableValue
bound_variable name xs = cond (sets_predefined name) None (variable_named name xs)

-- a variable's value at place i, as a shader has it
abbrev pub value_by : Kind → List ℕ → Vec3 → Value
value_by kinds.Float w p = Number p.x
value_by kinds.Pair w p = Number p.x
value_by kinds.Str w p = Word w
value_by kind w p = Triple p

-- the value of a variable at place i
abbrev pub value_at : Leaf → VariableValue → ℕ → Value
value_at l x i = value_by x.kind (text_of x.values) (spread l x i)

abbrev pub value_or : Leaf → ℕ → Option VariableValue → Value → Value
value_or l i None v = v
value_or l i (Some x) v = value_at l x i

-- the values of parameters at place i: those of the primitive's variables of their names, else those that are bound to them
abbrev pub values_at : Leaf → List Local → List Value → ℕ → List Value
values_at l (p ∷ ps) (v ∷ vs) i = value_or l i (bound_variable p.name l.prim.vars) v ∷ values_at l ps vs i
values_at l _ _ i = []

-- worked: a number that rises along u, in the middle, and one that doesn't vary; st before s and behind it
abbrev rising : List ℤ
rising = pos 0 ∷ pos 65536 ∷ pos 0 ∷ pos 65536 ∷ []

abbrev rises : between true (corners_of false kinds.Float identity rising) 2048 1024 ≡ record { x = pos 32768; y = pos 0; z = pos 0 }
rises = refl

abbrev stays : between false (corners_of false kinds.Float identity (pos 7 ∷ [])) 2048 1024 ≡ record { x = pos 7; y = pos 0; z = pos 0 }
stays = refl

abbrev turned_there : between false (corners_of true kinds.Color identity (pos 1 ∷ pos 2 ∷ pos 3 ∷ [])) 0 0 ≡ record { x = neg_ℤ (pos 1); y = neg_ℤ (pos 2); z = neg_ℤ (pos 3) }
turned_there = refl

abbrev number : List ℕ → ℕ → VariableValue
number name n = record { name = name; kind = kinds.Float; varying = false; values = held.Numbers (pos n ∷ []) }

abbrev pair : VariableValue
pair = record { name = codes "st"; kind = kinds.Pair; varying = false; values = held.Numbers (pos 1 ∷ pos 2 ∷ []) }

abbrev no_place : bound_variable (codes "s") (number (codes "s") 3 ∷ []) ≡ None
no_place = refl

abbrev its_place : bound_variable (codes "Ks") (number (codes "Ks") 3 ∷ []) ≡ Some (number (codes "Ks") 3)
its_place = refl

abbrev s_behind_st : setter (codes "s") (pair ∷ number (codes "s") 3 ∷ number (codes "t") 4 ∷ []) ≡ Some (number (codes "s") 3)
s_behind_st = refl

abbrev st_behind_s : setter (codes "s") (number (codes "s") 3 ∷ pair ∷ number (codes "t") 4 ∷ []) ≡ Some pair
st_behind_s = refl
