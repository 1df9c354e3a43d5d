-- Lights in force that have no number any more: the primitives of a world share their places.
use Rattle.std.specs.Prelude.{◌≡◌, ℕ, ◌-◌, List, [], ◌∷◌, length, option_map, Option, Some, None}
use Rattle.std.specs.List.{slice_get}
use Rattle.scene.specs.Scene.{PrimValue}
use Rattle.scene_parts.specs.Lights.{made_before}
use Rattle.scene_state.specs.declared.shaders.Slot.{Slot}
use Rattle.scene_state.specs.declared.shaders.Slot.TheVariants.{Used}
use Rattle.scene_state.specs.declared.shaders.Handle.{Handle}
use Rattle.scene_state.specs.declared.state.State.{State}

-- the first light that has a number
abbrev pub first_named : List Handle → Option ℕ
first_named [] = None
first_named (h ∷ hs) = Some h.light

-- the lights in force that have no number
abbrev pub unnamed : State → List ℕ
unnamed s = made_before (first_named s.handles) s.attributes.lights

-- those shader requests are uses at the places with which the list begins
abbrev pub AreAt : List Slot → List ℕ → List ℕ → Type 0
AreAt slots [] ns = Unit {0}
AreAt slots (k ∷ ks) [] = ⊥
AreAt slots (k ∷ ks) (n ∷ ns) = slice_get slots k ≡ Some (Used n) × AreAt slots ks ns

abbrev pub SomeAreAt : List Slot → List ℕ → Option (List ℕ) → Type 0
SomeAreAt slots ks None = Unit {0}
SomeAreAt slots ks (Some ns) = AreAt slots ks ns

abbrev pub last_lights : List PrimValue → Option (List ℕ)
last_lights ps = option_map (λ p. p.lights) (slice_get ps (length ps - 1))

-- the last primitive of the world begins with the places of all lights in force that have no number
abbrev pub LastAreAt : State → Type 0
LastAreAt s = SomeAreAt s.shaders.slots (unnamed s) (last_lights s.prims)
