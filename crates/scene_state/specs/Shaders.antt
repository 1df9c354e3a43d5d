-- Shader requests, and lights by their numbers (RenderMan Interface 3.2, sections 4.2.3 to 4.2.6).
use Rattle.std.specs.Prelude.{ℕ, ℤ, List, [], ◌∷◌, ◌++◌, length, Option, Some, None, if◌then◌else◌, codes, set}
use Rattle.std.specs.List.{slice_get}
use Rattle.std.specs.Option.{option_or}
use Rattle.std.specs.Ordering.{int_eq}
use Rattle.transforms.specs.Map.{identity}
use Rattle.scene_parts.specs.Looks.{first_look}
use Rattle.scene_parts.specs.Bases.{first_bases}
use Rattle.scene.specs.declared.uses.ShaderKind.TheVariants.{Surface}
use Rattle.scene.specs.declared.uses.ShaderUse.{ShaderUse}
use Rattle.scene_state.specs.declared.attributes.Attributes.{Attributes}
use Rattle.scene_state.specs.declared.shaders.Slot.{Slot}
use Rattle.scene_state.specs.declared.shaders.Slot.TheVariants.{Waiting, Used}
use Rattle.scene_state.specs.declared.shaders.Shaders.{Shaders}
use Rattle.scene_state.specs.declared.shaders.Worn.{Worn}
use Rattle.scene_state.specs.declared.shaders.Handle.{Handle}

-- the surface that holds at the start
abbrev pub first_surface : ShaderUse
first_surface = record { name = codes "constant"; kind = Surface; params = []; space = identity; line = 1 }

-- the attributes at the start
abbrev pub first_attributes : Attributes
first_attributes = record { look = first_look; bases = first_bases; surface = 0; displacement = None; atmosphere = None; lights = [] }

-- A shader request waits until a primitive has it; then it is the next of the scene's uses.
abbrev pub first_shaders : Shaders
first_shaders = record { slots = Waiting first_surface ∷ []; uses = [] }

-- one more shader request, which waits until a primitive has it
abbrev pub with_request : Shaders → ShaderUse → Shaders
with_request s u = record { slots = s.slots ++ Waiting u ∷ []; uses = s.uses }

abbrev pub IsWaiting : Option Slot → Type 0
IsWaiting (Some (Waiting u)) = Unit {0}
IsWaiting (Some (Used n)) = ⊥
IsWaiting None = ⊥

-- Shader k of all requests is had by a primitive: the shaders then, and its place among the uses.
abbrev pub placed_in : Shaders → ℕ → Option Slot → Shaders × ℕ
placed_in s k (Some (Waiting u)) = (record { slots = set s.slots k (Used (length s.uses)); uses = s.uses ++ u ∷ [] }, length s.uses)
placed_in s k (Some (Used n)) = (s, n)
placed_in s k None = (s, 0)

-- the use of a request: the next one where it waited, else the one that it had
abbrev pub placed : Shaders → ℕ → Shaders × ℕ
placed s k = placed_in s k (slice_get s.slots k)

abbrev pub some_placed : Shaders → Option ℕ → Shaders × Option ℕ
some_placed s None = (s, None)
some_placed s (Some k) = let p = placed s k in (p.0, Some p.1)

-- of several in order
abbrev pub all_placed : Shaders → List ℕ → Shaders × List ℕ
all_placed s [] = (s, [])
all_placed s (k ∷ ks) =
    let p = placed s k in
    let others = all_placed p.0 ks in
    (others.0, p.1 ∷ others.1)

-- those of a primitive with these attributes, had in the order displacement, surface, atmosphere, lights
abbrev pub worn_by : Shaders → Attributes → Shaders × Worn
worn_by s a =
    let d = some_placed s a.displacement in
    let f = placed d.0 a.surface in
    let v = some_placed f.0 a.atmosphere in
    let l = all_placed v.0 a.lights in
    (l.0, record { surface = f.1; displacement = d.1; atmosphere = v.1; lights = l.1 })

-- ---- lights

-- the light that a number stands for: the one that was made last
abbrev pub light_of : List Handle → ℤ → Option ℕ
light_of [] number = None
light_of (h ∷ hs) number = option_or (light_of hs number) (if int_eq h.number number then Some h.light else None)
