-- Laws of the scene.
use Rattle.std.specs.Prelude.{◌≡◌, ℕ, List, [], ◌∷◌, drop, length, Option, Some, None, All}
use Rattle.std.specs.List.{slice_get}
use Rattle.transforms.specs.Map.{Map}
use Rattle.rib_reader.specs.Reading.{Read}
use Rattle.scene.specs.Scene.{PrimValue}
use Rattle.scene.specs.declared.uses.ShaderUse.{ShaderUse}
use Rattle.primitives.specs.Patches.{PatchValue}
use Rattle.scene_state.specs.State.{with_patches}
use Rattle.scene_state.specs.declared.attributes.Attributes.{Attributes}
use Rattle.scene_state.specs.declared.shaders.Slot.{Slot}
use Rattle.scene_state.specs.declared.shaders.Slot.TheVariants.{Waiting, Used}
use Rattle.scene_state.specs.declared.shaders.Shaders.{Shaders}
use Rattle.scene_state.specs.declared.state.State.{State}

-- a shader request, which waits or is one of the uses
abbrev pub request_in : List ShaderUse → Option Slot → Option ShaderUse
request_in uses None = None
request_in uses (Some (Waiting u)) = Some u
request_in uses (Some (Used n)) = slice_get uses n

-- request k of all shader requests so far
abbrev pub request_at : Shaders → ℕ → Option ShaderUse
request_at s k = request_in s.uses (slice_get s.slots k)

-- the use at the surface of each primitive that is placed is the request in force
abbrev pub SurfaceLaw : Type 0
SurfaceLaw = (r : Read) (object : Map) (ps : List PatchValue) (s : State) (u : ShaderUse) → request_at s.shaders s.attributes.surface ≡ Some u →
    All (λ p. slice_get (with_patches r object ps s).shaders.uses p.surface ≡ Some u) (drop (length s.prims) (with_patches r object ps s).prims)

-- use n is request k of those so far
abbrev pub IsHad : Shaders → List ShaderUse → ℕ → ℕ → Type 0
IsHad s uses k n = (u : ShaderUse) → request_at s k ≡ Some u → slice_get uses n ≡ Some u

-- the same of a request that may not be there
abbrev pub IsSomeHad : Shaders → List ShaderUse → Option ℕ → Option ℕ → Type 0
IsSomeHad s uses None None = Unit {0}
IsSomeHad s uses (Some k) (Some n) = IsHad s uses k n
IsSomeHad s uses _ _ = ⊥

-- and of several, one by one
abbrev pub AreHad : Shaders → List ShaderUse → List ℕ → List ℕ → Type 0
AreHad s uses [] [] = Unit {0}
AreHad s uses (k ∷ ks) (n ∷ ns) = IsHad s uses k n × AreHad s uses ks ns
AreHad s uses _ _ = ⊥

-- a primitive's shaders are those requests
pub record Wears (s : Shaders) (a : Attributes) (uses : List ShaderUse) (p : PrimValue) : Type 0 where
  pub surface : IsHad s uses a.surface p.surface
  pub displacement : IsSomeHad s uses a.displacement p.displacement
  pub atmosphere : IsSomeHad s uses a.atmosphere p.atmosphere
  pub lights : AreHad s uses a.lights p.lights

-- the uses of each primitive that is placed, at its surface, displacement, atmosphere and each of its lights, are the requests in force
abbrev pub ShadersLaw : Type 0
ShadersLaw = (r : Read) (object : Map) (ps : List PatchValue) (s : State) →
    All (Wears s.shaders s.attributes (with_patches r object ps s).shaders.uses) (drop (length s.prims) (with_patches r object ps s).prims)
