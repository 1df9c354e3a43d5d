-- A scene and its shaders, and what is accepted.
use Rattle.std.proofs.Common.{◌≡◌, ℕ, List, [], ◌∷◌, ◌++◌, map, Option, Some, None, Ok, Err, All, refl, sym, ap, ◌∙◌, subst}
use Rattle.std.specs.Prelude.{slice_get}
use Rattle.std.proofs.lemmas.List.{length-map}
use Rattle.outside.specs.Causes.{Told}
use Rattle.outside.specs.Library.{Files}
use Rattle.outside.specs.Asked.{AsksAll, AsksFront}
use Rattle.outside.proofs.Asking.{asks_front-behind, asks_front-before}
use Rattle.texture.specs.Images.{Image}
use Rattle.scene.specs.declared.uses.ShaderUse.{ShaderUse}
use Rattle.sl_ast.specs.declared.typed.Value.{Value}
use Rattle.sl_ast.specs.Textures.{texture_nodes}
use Rattle.sl_ast.specs.Typed.{Tree}
use Rattle.shader_binding.specs.Sets.{FitsUse, FitUses, FitsLooks, FitLooks}
use Rattle.acceptance.specs.Textures.{name_with, names_with, names_at, all_names, texture_names, images_of, textures_asked, entry_in, entries_in}
use Rattle.scene.specs.Scene.{SceneValue}
use Rattle.acceptance.specs.declared.refusal.Refusal.{Refusal}
use Rattle.acceptance.specs.declared.refusal.Refusal.TheVariants.{Missing, At, ReadFault, NoMemory}
use Rattle.acceptance.specs.declared.read.ReadShader.{ReadShader}
use Rattle.acceptance.specs.Causes.{Cause, Reads, unless, cause_in}
use Rattle.acceptance.specs.Shaders.{shader_names, shaders_refused, shaders_asked}
use Rattle.acceptance.specs.UseFit.{uses_refused}
use Rattle.acceptance.specs.PrimFit.{frames_refused, prims_refused}
use Rattle.acceptance.specs.Accepting.{scene_of_text, accepted, accepted_scene, textured_scene, fitting_scene, bound_scene, without_cause, textures_where_fit, textures_for_scene, asked_for_scene}
use Rattle.acceptance.specs.declared.accepted_scene.AcceptedScene.{AcceptedScene}
use Rattle.acceptance.specs.declared.shaders.UsedShaders.{UsedShaders}
use Rattle.acceptance.specs.Set.{textures_named, set_of, accepted_with}
use Rattle.acceptance.specs.Reading.{name_of, tree_read, ArePlaced, IsReadOf, all_values, names_read, set_read}
use Rattle.acceptance.specs.Answers.{Because}
use Rattle.acceptance.specs.Reading.{accepted_in}
use Rattle.acceptance.specs.Reading.{set_in}
use Rattle.acceptance.proofs.ReadAll.{none_refused}
use Rattle.acceptance.proofs.SetSame.{named_same, set_same}

abbrev pub AllRead : Option Files → List ReadShader → Type 0
AllRead held shaders = Told held (λ files. All (IsReadOf files) shaders)

-- the names asked for where a text's scene is read: those of shaders, and behind them those of textures
with_shaders : (files : Files) (text : List ℕ) (scene : SceneValue) (o p : Option (List (List ℕ))) → scene_of_text text ≡ Ok scene
    → AsksFront (shaders_asked files (shader_names scene.uses) ++ textures_for_scene files scene) o p → AsksFront (asked_for_scene files (scene_of_text text)) o p
with_shaders files text scene o p is asks = subst (λ r. AsksFront (asked_for_scene files r) o p) (sym is) asks

pub read_asked : (held : Option Files) (text : List ℕ) (scene : SceneValue) (o p : Option (List (List ℕ))) → scene_of_text text ≡ Ok scene
    → Told held (λ files. AsksFront (shaders_asked files (shader_names scene.uses)) o p) → Told held (λ files. AsksFront (asked_for_scene files (scene_of_text text)) o p)
read_asked None text scene o p is asks = tt
read_asked (Some files) text scene o p is asks =
    with_shaders files text scene o p is (asks_front-before (shaders_asked files (shader_names scene.uses)) (textures_for_scene files scene) o p asks)

-- a refusal of the scene is that of what is to be accepted
scene_refused : (files : Files) (read : Reads SceneValue) (r : Refusal) → Because r (cause_in read) → Because r (cause_in (accepted_scene files read))
scene_refused files (Ok scene) (Missing file) h = absurd (cc h)
scene_refused files (Ok scene) (At file line code) h = absurd (cc h)
scene_refused files (Ok scene) ReadFault h = tt
scene_refused files (Ok scene) NoMemory h = tt
scene_refused files (Err cause) r h = h

pub scene_refused-told : (held : Option Files) (text : List ℕ) (r : Refusal) → Because r (cause_in (scene_of_text text)) → Told held (λ files. Because r (cause_in (accepted files text)))
scene_refused-told None text r h = tt
scene_refused-told (Some files) text r h = scene_refused files (scene_of_text text) r h

because_unless : {A : Type 0} (r : Refusal) (cause : Option Cause) (read : Reads A) → Because r cause → Because r (cause_in (unless cause read))
because_unless (Missing file) cause read h = ap (λ o. cause_in (unless o read)) h
because_unless (At file line code) cause read h = ap (λ o. cause_in (unless o read)) h
because_unless ReadFault cause read h = tt
because_unless NoMemory cause read h = tt

-- a shader is refused
pub shaders_refuse : (held : Option Files) (text : List ℕ) (scene : SceneValue) (r : Refusal) → scene_of_text text ≡ Ok scene
    → Told held (λ files. Because r (shaders_refused files (shader_names scene.uses))) → Told held (λ files. Because r (cause_in (accepted files text)))
shaders_refuse None text scene r is because = tt
shaders_refuse (Some files) text scene r is because =
    subst (λ q. Because r (cause_in (accepted_scene files q))) (sym is)
    (because_unless r (shaders_refused files (shader_names scene.uses)) (bound_scene files scene) because)

-- what is accepted of a scene whose shaders are read
shaders_read : (files : Files) (text : List ℕ) (scene : SceneValue) (shaders : List ReadShader) → scene_of_text text ≡ Ok scene
    → map name_of shaders ≡ shader_names scene.uses → All (IsReadOf files) shaders → accepted files text ≡ bound_scene files scene
shaders_read files text scene shaders is names all =
    ap (accepted_scene files) is ∙ ap (λ o. unless o (bound_scene files scene)) (none_refused files (shader_names scene.uses) shaders names all)

-- a request is refused
pub unbound : (held : Option Files) (text : List ℕ) (scene : SceneValue) (shaders : List ReadShader) (r : Refusal)
    → scene_of_text text ≡ Ok scene → map name_of shaders ≡ shader_names scene.uses → AllRead held shaders
    → ((files : Files) → All (IsReadOf files) shaders → Because r (uses_refused files scene.uses))
    → Told held (λ files. Because r (cause_in (accepted files text)))
unbound None text scene shaders r is names read because = tt
unbound (Some files) text scene shaders r is names read because =
    subst (λ q. Because r (cause_in q)) (sym (shaders_read files text scene shaders is names read))
    (because_unless r (uses_refused files scene.uses) (fitting_scene files scene) (because files read))

-- what is given up to the bindings
pub record Bound (held : Option Files) (text : List ℕ) (scene : SceneValue) (shaders : UsedShaders) (bound : List (List Value)) : Type 0 where
  pub of_text : scene_of_text text ≡ Ok scene
  pub names : map name_of shaders.read ≡ shader_names scene.uses
  pub read : AllRead held shaders.read
  pub placed : ArePlaced scene.uses shaders
  pub fits : (files : Files) → All (IsReadOf files) shaders.read → uses_refused files scene.uses ≡ None
  pub values : bound ≡ all_values shaders.read scene.uses shaders.of_use

-- what is accepted where the requests fit their shaders
requests_fit : (files : Files) (text : List ℕ) (scene : SceneValue) (shaders : UsedShaders) (bound : List (List Value)) → Bound (Some files) text scene shaders bound
    → accepted files text ≡ fitting_scene files scene
requests_fit files text scene shaders bound b =
    shaders_read files text scene shaders.read b.of_text b.names b.read ∙ ap (λ o. unless o (fitting_scene files scene)) (b.fits files b.read)

-- ---- primitives
-- the first reason why a primitive's variables don't fit, by the shaders that are read
abbrev pub prims_read : UsedShaders → SceneValue → Option Cause
prims_read shaders scene = frames_refused (map tree_read shaders.read) shaders.of_use scene.frames

prims_same : (files : Files) (text : List ℕ) (scene : SceneValue) (shaders : UsedShaders) (bound : List (List Value)) → Bound (Some files) text scene shaders bound
    → prims_read shaders scene ≡ prims_refused (set_of files scene.uses []) scene.frames
prims_same files text scene shaders bound b = ap (λ s. prims_refused s scene.frames) (set_same files scene.uses shaders [] b.read b.names b.placed)

-- a primitive is refused for its variables
pub unfit : (held : Option Files) (text : List ℕ) (scene : SceneValue) (shaders : UsedShaders) (bound : List (List Value)) (r : Refusal) → Bound held text scene shaders bound
    → Because r (prims_read shaders scene) → Told held (λ files. Because r (cause_in (accepted files text)))
unfit None text scene shaders bound r b because = tt
unfit (Some files) text scene shaders bound r b because =
    subst (λ q. Because r (cause_in q)) (sym (requests_fit files text scene shaders bound b))
    (because_unless r (prims_refused (set_of files scene.uses []) scene.frames) (textured_scene files scene (images_of files (textures_named files scene.uses)))
    (subst (λ o. Because r o) (prims_same files text scene shaders bound b) because))

none_unfit : (files : Files) (text : List ℕ) (scene : SceneValue) (shaders : UsedShaders) (bound : List (List Value)) → Bound (Some files) text scene shaders bound
    → prims_read shaders scene ≡ None → prims_refused (set_of files scene.uses []) scene.frames ≡ None
none_unfit files text scene shaders bound b none = sym (prims_same files text scene shaders bound b) ∙ none

-- ---- textures
-- what is told by a library that holds the same
pub told_same : (P : Files → Type 0) {held held_first : Option Files} → held ≡ held_first → Told held P → Told held_first P
told_same P {held} {held_first} same told = subst (λ h. Told h P) same told

-- the names of textures over what is read are those of the scene
textures_same : (files : Files) (text : List ℕ) (scene : SceneValue) (shaders : UsedShaders) (bound : List (List Value)) → Bound (Some files) text scene shaders bound
    → texture_names (names_read shaders bound) ≡ textures_named files scene.uses
textures_same files text scene shaders bound b = ap texture_names (named_same files scene.uses shaders bound b.read b.placed b.values)

-- what is accepted where the primitives fit too
prims_fit : (files : Files) (text : List ℕ) (scene : SceneValue) (shaders : UsedShaders) (bound : List (List Value)) → Bound (Some files) text scene shaders bound
    → prims_read shaders scene ≡ None → accepted files text ≡ textured_scene files scene (images_of files (texture_names (names_read shaders bound)))
prims_fit files text scene shaders bound b none =
    requests_fit files text scene shaders bound b
    ∙ ap (λ o. unless o (textured_scene files scene (images_of files (textures_named files scene.uses)))) (none_unfit files text scene shaders bound b none)
    ∙ ap (λ ns. textured_scene files scene (images_of files ns)) (sym (textures_same files text scene shaders bound b))

because_textures : (files : Files) (scene : SceneValue) (read : Reads (List Image)) (r : Refusal) → Because r (cause_in read) → Because r (cause_in (textured_scene files scene read))
because_textures files scene (Err cause) r h = h
because_textures files scene (Ok images) (Missing file) h = absurd (cc h)
because_textures files scene (Ok images) (At file line code) h = absurd (cc h)
because_textures files scene (Ok images) ReadFault h = tt
because_textures files scene (Ok images) NoMemory h = tt

-- a texture is refused
pub untextured : (held : Option Files) (text : List ℕ) (scene : SceneValue) (shaders : UsedShaders) (bound : List (List Value)) (r : Refusal) → Bound held text scene shaders bound
    → prims_read shaders scene ≡ None → Told held (λ files. Because r (cause_in (images_of files (texture_names (names_read shaders bound)))))
    → Told held (λ files. Because r (cause_in (accepted files text)))
untextured None text scene shaders bound r b none because = tt
untextured (Some files) text scene shaders bound r b none because =
    subst (λ q. Because r (cause_in q)) (sym (prims_fit files text scene shaders bound b none))
    (because_textures files scene (images_of files (texture_names (names_read shaders bound))) r because)

-- the names asked for behind those of shaders
pub textures_asked_behind : (held : Option Files) (text : List ℕ) (scene : SceneValue) (shaders : UsedShaders) (bound : List (List Value)) (o p q : Option (List (List ℕ)))
    → Bound held text scene shaders bound → prims_read shaders scene ≡ None
    → Told held (λ files. AsksAll (shaders_asked files (shader_names scene.uses)) o p) → Told held (λ files. AsksFront (textures_asked files (texture_names (names_read shaders bound))) p q)
    → Told held (λ files. AsksFront (asked_for_scene files (scene_of_text text)) o q)
textures_asked_behind None text scene shaders bound o p q b none all front = tt
textures_asked_behind (Some files) text scene shaders bound o p q b none all front =
    let asked : List (List ℕ) = textures_asked files (textures_named files scene.uses) in
    let same : textures_for_scene files scene ≡ asked =
    ap (λ c. without_cause c (without_cause (uses_refused files scene.uses) (textures_where_fit files scene))) (none_refused files (shader_names scene.uses) shaders.read b.names b.read)
    ∙ ap (λ c. without_cause c (textures_where_fit files scene)) (b.fits files b.read)
    ∙ ap (λ c. without_cause c asked) (none_unfit files text scene shaders bound b none) in
    with_shaders files text scene o q b.of_text
    (asks_front-behind (shaders_asked files (shader_names scene.uses)) (textures_for_scene files scene) o p q all
    (subst (λ ns. AsksFront ns p q) (ap (textures_asked files) (textures_same files text scene shaders bound b) ∙ sym same) front))

-- ---- all of it
pub judged : (held : Option Files) (text : List ℕ) (scene : SceneValue) (shaders : UsedShaders) (bound : List (List Value)) (images : List Image) (a : AcceptedScene)
    → Bound held text scene shaders bound → prims_read shaders scene ≡ None
    → Told held (λ files. images_of files (texture_names (names_read shaders bound)) ≡ Ok images)
    → a.scene ≡ scene → set_in a ≡ set_read shaders scene.uses images
    → Told held (λ files. accepted files text ≡ Ok (accepted_in a))
judged None text scene shaders bound images a b none read same set = tt
judged (Some files) text scene shaders bound images a b none read same set =
    let whole : accepted_in a ≡ accepted_with files scene images = rw (same, set, set_same files scene.uses shaders images b.read b.names b.placed) refl in
    prims_fit files text scene shaders bound b none ∙ ap (textured_scene files scene) read ∙ ap (λ v. Ok v) (sym whole)

-- one list of entries for each use whose tree is there
pub looks_fit : (all : List (List ℕ)) (trees : List Tree) (us : List ShaderUse) (ns : List ℕ) (vss : List (List Value)) → FitUses trees us ns vss
    → FitLooks trees ns (entries_in all (all_names trees ns vss))
looks_fit all trees [] [] [] h = tt
looks_fit all trees (u ∷ us) (n ∷ ns) (vs ∷ vss) h = (here (slice_get trees n) h.0, looks_fit all trees us ns vss h.1)
  where
    here : (o : Option Tree) → FitsUse u vs o → FitsLooks (map (entry_in all) (names_at o vs)) o
    here None f = absurd f
    here (Some t) f = length-map (names_with t vs) (entry_in all) ∙ length-map (texture_nodes t) (λ n. name_with vs n.name)
looks_fit all trees [] (n ∷ ns) vss h = absurd h
looks_fit all trees [] [] (vs ∷ vss) h = absurd h
looks_fit all trees (u ∷ us) [] vss h = absurd h
looks_fit all trees (u ∷ us) (n ∷ ns) [] h = absurd h
