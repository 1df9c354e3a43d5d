-- Patches that are placed, with the shaders in force.
use Rattle.std.proofs.Common.{◌≡◌, ◌∙◌, ap, refl, arith, ℕ, ◌<◌, List, [], ◌∷◌, ◌++◌, length, map, Option}
use Rattle.transforms.specs.Map.{Map}
use Rattle.rib_reader.specs.Reading.{Read}
use Rattle.scene.specs.Scene.{PrimValue}
use Rattle.primitives.specs.Patches.{PatchValue}
use Rattle.scene_state.specs.Shaders.{placed, some_placed, all_placed, worn_by}
use Rattle.scene_state.specs.declared.attributes.Attributes.{Attributes}
use Rattle.scene_state.specs.declared.shaders.Worn.{Worn}
use Rattle.scene_state.specs.declared.shaders.Shaders.{Shaders}
use Rattle.scene_state.specs.State.{prim_of, with_patches}
use Rattle.scene_state.specs.declared.state.State.{State}

abbrev pub worn : ℕ → Option ℕ → Option ℕ → List ℕ → Worn
worn surface displacement atmosphere lights = record { surface = surface; displacement = displacement; atmosphere = atmosphere; lights = lights }

-- the shaders of a primitive are had one after another
pub worn_is : (s : Shaders) (a : Attributes) (d : Shaders × Option ℕ) (f : Shaders × ℕ) (v : Shaders × Option ℕ) (l : Shaders × List ℕ) →
    d ≡ some_placed s a.displacement → f ≡ placed d.0 a.surface → v ≡ some_placed f.0 a.atmosphere → l ≡ all_placed v.0 a.lights →
    (l.0, worn f.1 d.1 v.1 l.1) ≡ worn_by s a
worn_is s a d f v l ed ef ev el =
    let D = some_placed s a.displacement in
    let F = placed D.0 a.surface in
    let V = some_placed F.0 a.atmosphere in
    let with : (d : Shaders × Option ℕ) (f : Shaders × ℕ) (v : Shaders × Option ℕ) (l : Shaders × List ℕ) → Shaders × Worn =
    λ d f v l. (l.0, worn f.1 d.1 v.1 l.1) in
    let to_f : f ≡ F = ef ∙ ap (λ (x : Shaders × Option ℕ). placed x.0 a.surface) ed in
    let to_v : v ≡ V = ev ∙ ap (λ (x : Shaders × ℕ). some_placed x.0 a.atmosphere) to_f in
    let to_l : l ≡ all_placed V.0 a.lights = el ∙ ap (λ (x : Shaders × Option ℕ). all_placed x.0 a.lights) to_v in
    ap (λ x. with x f v l) ed ∙ ap (λ x. with D x v l) to_f ∙ ap (λ x. with D F x l) to_v ∙ ap (λ x. with D F V x) to_l

-- no patches change nothing
pub none_placed : (r : Read) (object : Map) (ps : List PatchValue) (s : State) → length ps ≡ 0 → s ≡ with_patches r object ps s
none_placed r object [] s e = refl
none_placed r object (p ∷ ps) s e = absurd (omega (arith, e))

-- patches are placed, and their shaders are had
pub patches_are : (r : Read) (object : Map) (ps : List PatchValue) (s : State) (w : Shaders × Worn) (prims : List PrimValue) → 0 < length ps → w ≡ worn_by s.shaders s.attributes →
    prims ≡ s.prims ++ map (prim_of r object s.attributes.look w.1) ps →
    record s { shaders = w.0; prims = prims } ≡ with_patches r object ps s
patches_are r object [] s w prims some ew e = absurd (omega (arith, some))
patches_are r object (p ∷ ps) s w prims some ew e =
    let with : Shaders × Worn → State =
    λ w. record s { shaders = w.0; prims = s.prims ++ map (prim_of r object s.attributes.look w.1) (p ∷ ps) } in
    ap (λ (qs : List PrimValue). record s { shaders = w.0; prims = qs }) e ∙ ap with ew
