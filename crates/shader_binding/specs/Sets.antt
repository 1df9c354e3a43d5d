-- The shaders of a scene: their trees, the tree of each use, and the values that its parameters are bound to.
use Rattle.std.specs.Prelude.{ℕ, Bool, true, false, List, [], ◌∷◌, length, Option, Some, None, slice_get, slice_index_or, ◌≡◌}
use Rattle.texture.specs.Images.{Image}
use Rattle.transforms.specs.Map.{Map}
use Rattle.scene.specs.Scene.{SceneValue}
use Rattle.scene.specs.declared.uses.ShaderKind.{ShaderKind}
use Rattle.scene.specs.declared.uses.ShaderKind.TheVariants as requested
use Rattle.scene.specs.declared.uses.ShaderUse.{ShaderUse}
use Rattle.sl_ast.specs.declared.kinds.SlKind.{SlKind}
use Rattle.sl_ast.specs.declared.kinds.SlKind.TheVariants as written
use Rattle.sl_ast.specs.declared.typed.Value.{Value}
use Rattle.sl_ast.specs.Textures.{texture_nodes}
use Rattle.sl_ast.specs.Typed.{Local, Tree}
use Rattle.builtins.specs.Shapes.{shape}
use Rattle.builtins.specs.Values.{shape_of}

-- `look_ups` has for each use one entry for each look-up of its tree, in their order: the place of a texture, or none
pub record SetValue : Type 0 where
  pub trees : List Tree
  pub of_use : List ℕ
  pub bound : List (List Value)
  pub look_ups : List (List (Option ℕ))
  pub textures : List Image

-- a scene with its shaders
pub record AcceptedValue : Type 0 where
  pub scene : SceneValue
  pub set : SetValue

-- a shader of the kind that is asked for
abbrev pub is_of_kind : SlKind → ShaderKind → Bool
is_of_kind written.Surface requested.Surface = true
is_of_kind written.Displacement requested.Displacement = true
is_of_kind written.Light requested.Light = true
is_of_kind written.Volume requested.Volume = true
is_of_kind _ _ = false

-- one value of the declared kind for each parameter
abbrev pub AreValuesOf : List Local → List Value → Type 0
AreValuesOf [] [] = Unit {0}
AreValuesOf (l ∷ ls) (v ∷ vs) = (shape v ≡ shape_of l.kind) × AreValuesOf ls vs
AreValuesOf _ _ = ⊥

abbrev pub FitsUse : ShaderUse → List Value → Option Tree → Type 0
FitsUse u vs None = ⊥
FitsUse u vs (Some t) = (is_of_kind t.kind u.kind ≡ true) × AreValuesOf t.params vs

abbrev pub FitUses : List Tree → List ShaderUse → List ℕ → List (List Value) → Type 0
FitUses trees [] [] [] = Unit {0}
FitUses trees (u ∷ us) (n ∷ ns) (vs ∷ vss) = FitsUse u vs (slice_get trees n) × FitUses trees us ns vss
FitUses trees _ _ _ = ⊥

-- one entry for each look-up of each use's tree
abbrev pub FitsLooks : List (Option ℕ) → Option Tree → Type 0
FitsLooks es None = ⊥
FitsLooks es (Some t) = length es ≡ length (texture_nodes t)

abbrev pub FitLooks : List Tree → List ℕ → List (List (Option ℕ)) → Type 0
FitLooks trees [] [] = Unit {0}
FitLooks trees (n ∷ ns) (es ∷ ess) = FitsLooks es (slice_get trees n) × FitLooks trees ns ess
FitLooks trees _ _ = ⊥

-- the set fits a scene with these uses
pub record Fits (s : SetValue) (asked : List ShaderUse) : Type 0 where
  pub uses : FitUses s.trees asked s.of_use s.bound
  pub look_ups : FitLooks s.trees s.of_use s.look_ups

-- the shader of a use with what it is bound to, its look-ups, the textures and its space
pub record Bound : Type 0 where
  pub tree : Tree
  pub values : List Value
  pub look_ups : List (Option ℕ)
  pub textures : List Image
  pub space : Map

-- a shader with its values, look-ups and space, where all are there
abbrev pub bound_with : List Image → Option Tree → Option (List Value) → Option (List (Option ℕ)) → Option ShaderUse → Option Bound
bound_with ps (Some t) (Some vs) (Some ls) (Some u) = Some record { tree = t; values = vs; look_ups = ls; textures = ps; space = u.space }
bound_with ps _ _ _ _ = None

-- the shader of use n with its values, its look-ups and the textures
abbrev pub bound_at : SetValue → List ShaderUse → ℕ → Option Bound
bound_at s uses n = bound_with s.textures (slice_get s.trees (slice_index_or s.of_use n 0)) (slice_get s.bound n) (slice_get s.look_ups n) (slice_get uses n)

-- that of a use that may be missing
abbrev pub bound_for : SetValue → List ShaderUse → Option ℕ → Option Bound
bound_for s uses None = None
bound_for s uses (Some n) = bound_at s uses n
