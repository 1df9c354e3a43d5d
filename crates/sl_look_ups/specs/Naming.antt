-- Which parameters name textures: to these no variable of a primitive binds.
use Rattle.std.specs.Prelude.{ℕ, ◌+◌, ◌==◌, codes, Bool, true, false, ◌||◌, List, [], ◌∷◌, ◌≡◌, refl}
use Rattle.std.specs.List.{list_any}
use Rattle.sl_ast.specs.declared.typed.Variable.TheVariants.{Level}
use Rattle.sl_ast.specs.Textures.{TextureNode, texture_nodes}
use Rattle.sl_ast.specs.Typed.{Expr, variable, Local, Tree}
use Rattle.sl_ast.specs.declared.kinds.NodeType.TheVariants as types
use Rattle.sl_ast.specs.Examples.{at}

-- what names a texture is the parameter with that index
abbrev pub is_parameter : ℕ → Expr → Bool
is_parameter k (variable (Level n) kind p) = n == k
is_parameter k e = false

abbrev pub is_named_by : List TextureNode → ℕ → Bool
is_named_by nodes k = list_any (λ n. is_parameter k n.name) nodes

-- for each of these parameters, the first of which has that index, whether it names a texture
abbrev pub naming_from : List TextureNode → ℕ → List Local → List Bool
naming_from nodes k [] = []
naming_from nodes k (l ∷ ls) = is_named_by nodes k ∷ naming_from nodes (k + 1) ls

abbrev pub naming : Tree → List Bool
naming t = naming_from (texture_nodes t) 0 t.params

-- answers for parameters, the first of which has that index, with a yes for the one that an expression is
abbrev pub noted : Expr → ℕ → List Bool → List Bool
noted e k [] = []
noted e k (b ∷ bs) = (b || is_parameter k e) ∷ noted e (k + 1) bs

-- a parameter as variables of primitives bind to it: one that names a texture has the name of a predefined variable here, since to these none binds
abbrev pub bindable : Bool → Local → Local
bindable true l = record { name = codes "s"; kind = l.kind; uniform = l.uniform }
bindable false l = l

abbrev pub bindable_from : List TextureNode → ℕ → List Local → List Local
bindable_from nodes k [] = []
bindable_from nodes k (l ∷ ls) = bindable (is_named_by nodes k) l ∷ bindable_from nodes (k + 1) ls

-- a shader's parameters as variables of primitives bind to them
abbrev pub binding_params : Tree → List Local
binding_params t = bindable_from (texture_nodes t) 0 t.params

-- worked: a look-up by the second parameter
abbrev by_second : List TextureNode
by_second = record { number = 0; name = variable (Level 1) types.Str (at 1) } ∷ []

second_names : is_named_by by_second 1 ≡ true
second_names = refl

first_does_not : is_named_by by_second 0 ≡ false
first_does_not = refl
