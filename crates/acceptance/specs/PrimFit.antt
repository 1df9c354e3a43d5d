-- How the variables of primitives fit the parameters of their shaders (RenderMan Interface 3.2, section 5, primitive variables, and
-- section 11.3.3).
use Rattle.std.specs.Prelude.{◌≡◌, ◌≤◌, refl, ℕ, Bool, length, true, false, not, ◌&&◌, ◌||◌, List, [], ◌∷◌, map, slice_get, Option, Some, None, All, codes, if◌then◌else◌}
use Rattle.std.specs.List.{list_any}
use Rattle.std.specs.Str.{bytes_eq}
use Rattle.scene.specs.declared.params.Kind.{Kind}
use Rattle.scene.specs.declared.params.Kind.TheVariants as kinds
use Rattle.scene.specs.declared.params.Values.TheVariants.{Numbers}
use Rattle.scene.specs.Scene.{VariableValue, PrimValue, FrameValue, SceneValue}
use Rattle.scene.specs.declared.uses.ShaderUse.{ShaderUse}
use Rattle.sl_ast.specs.declared.kinds.SlType.TheVariants as types
use Rattle.sl_ast.specs.Typed.{Local, Tree}
use Rattle.sl_look_ups.specs.Naming.{binding_params}
use Rattle.shader_binding.specs.Sets.{SetValue, Fits}
use Rattle.shader_binding.specs.Predefined.{sets_predefined}
use Rattle.shader_binding.specs.Bindings.{FitsPrim}
use Rattle.acceptance.specs.declared.code.FaultCode.TheVariants.{B2}
use Rattle.acceptance.specs.declared.refusal.FileId.TheVariants.{Scene}
use Rattle.acceptance.specs.Causes.{Cause, At, first_of}
use Rattle.acceptance.specs.RequestFit.{is_of_type}

-- a variable has the name of a parameter, but another kind, or it varies where the parameter is uniform
abbrev pub is_unfit : VariableValue → Local → Bool
is_unfit x l = bytes_eq l.name x.name && (not (is_of_type l.kind x.kind) || (x.varying && l.uniform))

-- a variable that binds doesn't fit one of these parameters
abbrev pub binds_unfit : List Local → VariableValue → Bool
binds_unfit ls x = not (sets_predefined x.name) && list_any (is_unfit x) ls

-- the tree of the shader of use n, by the places of the uses' trees
abbrev pub tree_placed : List Tree → Option ℕ → Option Tree
tree_placed trees None = None
tree_placed trees (Some place) = slice_get trees place

abbrev pub tree_at : List Tree → List ℕ → ℕ → Option Tree
tree_at trees of_use n = tree_placed trees (slice_get of_use n)

-- some of these variables doesn't fit a shader, where there is one
abbrev pub unfit_for : Option Tree → List VariableValue → Bool
unfit_for None xs = false
unfit_for (Some tree) xs = list_any (binds_unfit (binding_params tree)) xs

abbrev pub unfit_at : List Tree → List ℕ → Option ℕ → List VariableValue → Bool
unfit_at trees of_use None xs = false
unfit_at trees of_use (Some n) xs = unfit_for (tree_at trees of_use n) xs

-- a variable of the primitive doesn't fit its surface, displacement or atmosphere; to its lights none binds
abbrev pub is_unfit_prim : List Tree → List ℕ → PrimValue → Bool
is_unfit_prim trees of_use p =
    unfit_at trees of_use (Some p.surface) p.vars || (unfit_at trees of_use p.displacement p.vars || unfit_at trees of_use p.atmosphere p.vars)

-- the variables of all primitives of these frames fit their shaders
abbrev pub FitPrims : SetValue → List ShaderUse → List FrameValue → Type 0
FitPrims s uses fs = All (λ f. All (FitsPrim s uses) f.prims) fs

-- the set fits the scene, and so do the variables of its primitives; it has at most 1,000 frames
pub record FitsScene (s : SetValue) (scene : SceneValue) : Type 0 where
  pub uses : Fits s scene.uses
  pub variables : FitPrims s scene.uses scene.frames
  pub few : length scene.frames ≤ 1000

-- the first primitive whose variables don't fit, as a cause at its line
abbrev pub prim_refused : List Tree → List ℕ → PrimValue → Option Cause
prim_refused trees of_use p = if is_unfit_prim trees of_use p then Some (At Scene p.line B2) else None

abbrev pub frame_refused : List Tree → List ℕ → FrameValue → Option Cause
frame_refused trees of_use f = first_of (map (prim_refused trees of_use) f.prims)

-- the first primitive of some frames that is refused
abbrev pub frames_refused : List Tree → List ℕ → List FrameValue → Option Cause
frames_refused trees of_use fs = first_of (map (frame_refused trees of_use) fs)

-- the first primitive with a variable that doesn't fit a parameter of its shaders, as B2 at its line
abbrev pub prims_refused : SetValue → List FrameValue → Option Cause
prims_refused s fs = frames_refused s.trees s.of_use fs

-- worked values: a vector for a point, a varying number for a uniform one; `st` never binds, and a name that isn't declared is passed over
abbrev param : List ℕ → Bool → Local
param name uniform = record { name = name; kind = types.Point; uniform = uniform }

abbrev variable : List ℕ → Kind → Bool → VariableValue
variable name kind varying = record { name = name; kind = kind; varying = varying; values = Numbers [] }

a_vector : binds_unfit (param (codes "a") false ∷ []) (variable (codes "a") kinds.Vector false) ≡ true
a_vector = refl

a_varying_one : binds_unfit (param (codes "a") true ∷ []) (variable (codes "a") kinds.Point true) ≡ true
a_varying_one = refl

one_for_all : binds_unfit (param (codes "a") false ∷ []) (variable (codes "a") kinds.Point false) ≡ false
one_for_all = refl

a_pair : binds_unfit (param (codes "st") true ∷ []) (variable (codes "st") kinds.Pair true) ≡ false
a_pair = refl

another_name : binds_unfit (param (codes "a") true ∷ []) (variable (codes "b") kinds.Float true) ≡ false
another_name = refl
