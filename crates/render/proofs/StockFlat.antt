-- Leaves under the stock's `constant` are flat.
use Rattle.std.proofs.Common.{◌≡◌, ℕ, zero, suc, Bool, true, false, not, ◌||◌, List, [], ◌∷◌, map, Option, Some, None, Ok, Err, cond, refl, sym, ap, ◌∙◌, subst}
use Rattle.std.specs.Prelude.{slice_get, slice_index_or, codes, option_map}
use Rattle.std.proofs.lemmas.Option.{slice_get-map}
use Rattle.std.specs.List.{cons_option}
use Rattle.std.specs.Str.{bytes_eq}
use Rattle.outside.specs.Library.{Files, held_as}
use Rattle.scene.specs.Scene.{SceneValue}
use Rattle.scene.specs.declared.uses.ShaderUse.{ShaderUse}
use Rattle.sl_ast.specs.Typed.{Tree}
use Rattle.fixed_math.specs.Names.{last_place}
use Rattle.shader_binding.specs.Sets.{bound_with, bound_at, AcceptedValue}
use Rattle.displace_shade.specs.Constant.{constant_tree, IsFlat}
use Rattle.displace_shade.proofs.Flat.{constant_law}
use Rattle.acceptance.specs.Causes.{Cause, Reads, unless, cause_in, or_else}
use Rattle.acceptance.specs.Shaders.{file_of, text_with, tree_of_text, shader_tree, without, distinct, use_name, shader_names, shaders_refused}
use Rattle.acceptance.specs.UseFit.{uses_refused}
use Rattle.acceptance.specs.PrimFit.{prims_refused}
use Rattle.texture.specs.Images.{Image}
use Rattle.acceptance.specs.Places.{place_or, place_in}
use Rattle.acceptance.specs.Textures.{entry_in, entries_in, images_of}
use Rattle.acceptance.specs.Set.{tree_in, trees_of, values_in, names_in, names_of_uses, textures_named, set_of, accepted_with}
use Rattle.acceptance.specs.Accepting.{scene_of_text, accepted_scene, textured_scene, fitting_scene, bound_scene}
use Rattle.acceptance.specs.Reading.{is_among}
use Rattle.render.specs.Stocked.{the_constant, StockConstantLaw}
use Rattle.acceptance.proofs.Names.{same_name, itself}
use Rattle.acceptance.proofs.Places.{unplaced, placed}

-- ---- the tree of the stock's text
pub constant_read : (files : Files) → held_as files (file_of (codes "constant")) ≡ None → shader_tree files (codes "constant") ≡ Ok constant_tree
unfolding shader_tree
constant_read files h = ap (λ o. tree_of_text (codes "constant") (text_with o (codes "constant"))) h ∙ the_constant

-- ---- what is accepted
unless_ok : {A : Type 0} (cause : Option Cause) (read : Reads A) (x : A) → unless cause read ≡ Ok x → (cause ≡ None) × (read ≡ Ok x)
unless_ok None read x h = (refl, h)
unless_ok (Some cause) read x h = absurd (cc h)

textured_from : (files : Files) (scene : SceneValue) (read : Reads (List Image)) (a : AcceptedValue) → textured_scene files scene read ≡ Ok a → (images : List Image) × (a ≡ accepted_with files scene images)
textured_from files scene (Err cause) a h = absurd (cc h)
textured_from files scene (Ok images) a h = (images, cc h)

accepted_from : (files : Files) (read : Reads SceneValue) (a : AcceptedValue) → accepted_scene files read ≡ Ok a
    → (scene : SceneValue) × (images : List Image) × (a ≡ accepted_with files scene images) × (shaders_refused files (shader_names scene.uses) ≡ None)
accepted_from files (Err cause) a h = absurd (cc h)
accepted_from files (Ok scene) a h =
    let shaders = unless_ok (shaders_refused files (shader_names scene.uses)) (bound_scene files scene) a h in
    let requests = unless_ok (uses_refused files scene.uses) (fitting_scene files scene) a shaders.1 in
    let prims = unless_ok (prims_refused (set_of files scene.uses []) scene.frames) (textured_scene files scene (images_of files (textures_named files scene.uses))) a requests.1 in
    let textured = textured_from files scene (images_of files (textures_named files scene.uses)) a prims.1 in
    (scene, textured.0, textured.1, shaders.0)

-- ---- names of uses
-- a name that isn't another one stays where that one is left out
still_there : (name n : List ℕ) (ns : List (List ℕ)) → bytes_eq n name ≡ false → is_among name ns ≡ true → is_among name (without n ns) ≡ true
still_there name n [] other h = absurd (cc h)
still_there name n (m ∷ ms) other h = by (bytes_eq m n) (bytes_eq m name) (λ r. still_there name n ms other r) refl refl
  where
    by : (b c : Bool) → (is_among name ms ≡ true → is_among name (without n ms) ≡ true) → bytes_eq m n ≡ b → bytes_eq m name ≡ c → is_among name (cond (not (bytes_eq m n)) (m ∷ without n ms) (without n ms)) ≡ true
    by true true more e f = absurd (cc (other, ap (λ x. bytes_eq x name) (sym (same_name m n e)) ∙ f))
    by true false more e f =
        let rest : is_among name ms ≡ true = ap (λ b. b || is_among name ms) (sym f) ∙ h in
        ap (λ b. is_among name (cond (not b) (m ∷ without n ms) (without n ms))) e ∙ more rest
    by false true more e f =
        ap (λ b. is_among name (cond (not b) (m ∷ without n ms) (without n ms))) e ∙ ap (λ b. b || is_among name (without n ms)) f
    by false false more e f =
        let rest : is_among name ms ≡ true = ap (λ b. b || is_among name ms) (sym f) ∙ h in
        ap (λ b. is_among name (cond (not b) (m ∷ without n ms) (without n ms))) e ∙ ap (λ b. b || is_among name (without n ms)) f ∙ more rest

among_distinct : (name : List ℕ) (ns : List (List ℕ)) → is_among name ns ≡ true → is_among name (distinct ns) ≡ true
among_distinct name [] h = absurd (cc h)
among_distinct name (n ∷ ns) h = by (bytes_eq n name) (λ r. among_distinct name ns r) refl
  where
    by : (b : Bool) → (is_among name ns ≡ true → is_among name (distinct ns) ≡ true) → bytes_eq n name ≡ b → is_among name (n ∷ without n (distinct ns)) ≡ true
    by true more e = ap (λ b. b || is_among name (without n (distinct ns))) e
    by false more e =
        let rest : is_among name ns ≡ true = ap (λ b. b || is_among name ns) (sym e) ∙ h in
        ap (λ b. b || is_among name (without n (distinct ns))) e ∙ still_there name n (distinct ns) e (more rest)

or_true : (b : Bool) → (b || true) ≡ true
or_true true = refl
or_true false = refl

use_among : (uses : List ShaderUse) (k : ℕ) (u : ShaderUse) → slice_get uses k ≡ Some u → is_among u.name (map use_name uses) ≡ true
use_among [] k u h = absurd (cc h)
use_among (v ∷ us) zero u h =
    let same : v ≡ u = cc h in
    ap (λ (w : ShaderUse). bytes_eq w.name u.name || is_among u.name (map use_name us)) same ∙ ap (λ b. b || is_among u.name (map use_name us)) (itself u.name)
use_among (v ∷ us) (suc k) u h = ap (λ b. bytes_eq v.name u.name || b) (use_among us k u h) ∙ or_true (bytes_eq v.name u.name)

-- ---- the place of a name, and the tree there
named_place : (name : List ℕ) (names : List (List ℕ)) → is_among name names ≡ true → slice_get names (place_in names name) ≡ Some name
named_place name names h = by (last_place name names) refl
  where
    by : (o : Option ℕ) → last_place name names ≡ o → slice_get names (place_or o) ≡ Some name
    by None e = absurd (cc (sym (unplaced name names e) ∙ h))
    by (Some p) e = placed name names p e

both_none : (a b : Option Cause) → or_else a b ≡ None → (a ≡ None) × (b ≡ None)
both_none None b h = (refl, h)
both_none (Some cause) b h = absurd (cc h)

tree_placed : (files : Files) (names : List (List ℕ)) (p : ℕ) (name : List ℕ) (t : Tree) → shaders_refused files names ≡ None → slice_get names p ≡ Some name
    → shader_tree files name ≡ Ok t → slice_get (trees_of files names) p ≡ Some t
tree_placed files [] p name t none h is = absurd (cc h)
tree_placed files (n ∷ ns) zero name t none h is =
    let same : n ≡ name = cc h in
    ap (λ r. slice_get (cons_option (tree_in r) (trees_of files ns)) 0) (ap (shader_tree files) same ∙ is)
tree_placed files (n ∷ ns) (suc p) name t none h is = by (shader_tree files n) (λ rest. tree_placed files ns p name t rest h is) refl
  where
    by : (r : Reads Tree) → (shaders_refused files ns ≡ None → slice_get (trees_of files ns) p ≡ Some t) → shader_tree files n ≡ r → slice_get (cons_option (tree_in (shader_tree files n)) (trees_of files ns)) (suc p) ≡ Some t
    by (Ok tree) more e =
        let rest = both_none (cause_in (shader_tree files n)) (shaders_refused files ns) none in
        ap (λ r. slice_get (cons_option (tree_in r) (trees_of files ns)) (suc p)) e ∙ more rest.1
    by (Err cause) more e =
        let rest = both_none (cause_in (shader_tree files n)) (shaders_refused files ns) none in
        absurd (cc (sym (ap (λ r. cause_in r) e) ∙ rest.0))

-- ---- the shader of a use
index_there : (f : ShaderUse → ℕ) (uses : List ShaderUse) (k : ℕ) (u : ShaderUse) → slice_get uses k ≡ Some u → slice_index_or (map f uses) k 0 ≡ f u
index_there f [] k u h = absurd (cc h)
index_there f (v ∷ us) zero u h = let same : v ≡ u = cc h in ap f same
index_there f (v ∷ us) (suc k) u h = index_there f us k u h

image_there : {B : Type 0} (f : ShaderUse → B) (uses : List ShaderUse) (k : ℕ) (u : ShaderUse) → slice_get uses k ≡ Some u → slice_get (map f uses) k ≡ Some (f u)
image_there f [] k u h = absurd (cc h)
image_there f (v ∷ us) zero u h = let same : v ≡ u = cc h in ap (λ w. Some (f w)) same
image_there f (v ∷ us) (suc k) u h = image_there f us k u h

bound_there : (files : Files) (images : List Image) (uses : List ShaderUse) (k : ℕ) (u : ShaderUse) (t : Tree) → shaders_refused files (shader_names uses) ≡ None → slice_get uses k ≡ Some u
    → shader_tree files u.name ≡ Ok t → bound_at (set_of files uses images) uses k ≡ Some (record { tree = t; values = values_in (shader_tree files u.name) u; look_ups = map (entry_in (textures_named files uses)) (names_in (shader_tree files u.name) u); textures = images; space = u.space })
bound_there files images uses k u t none there is =
    let names : List (List ℕ) = shader_names uses in
    let at : slice_index_or (map (λ v. place_in names v.name) uses) k 0 ≡ place_in names u.name = index_there (λ v. place_in names v.name) uses k u there in
    let tree : slice_get (trees_of files names) (place_in names u.name) ≡ Some t =
    tree_placed files names (place_in names u.name) u.name t none (named_place u.name names (among_distinct u.name (map use_name uses) (use_among uses k u there))) is in
    let values = image_there (λ v. values_in (shader_tree files v.name) v) uses k u there in
    let all = textures_named files uses in
    let ess : List (List (Option ℕ)) = entries_in all (names_of_uses files uses) in
    let looks : slice_get ess k ≡ Some (map (entry_in all) (names_in (shader_tree files u.name) u)) =
    slice_get-map (λ ns. map (entry_in all) ns) (names_of_uses files uses) k ∙ ap (λ o. option_map (λ ns. map (entry_in all) ns) o) (image_there (λ v. names_in (shader_tree files v.name) v) uses k u there) in
    ap (λ n. bound_with images (slice_get (trees_of files names) n) (slice_get (map (λ v. values_in (shader_tree files v.name) v) uses) k) (slice_get ess k) (slice_get uses k)) at
    ∙ ap (λ o. bound_with images o (slice_get (map (λ v. values_in (shader_tree files v.name) v) uses) k) (slice_get ess k) (slice_get uses k)) tree
    ∙ ap (λ o. bound_with images (Some t) o (slice_get ess k) (slice_get uses k)) values
    ∙ ap (λ o. bound_with images (Some t) (Some (values_in (shader_tree files u.name) u)) o (slice_get uses k)) looks
    ∙ ap (λ o. bound_with images (Some t) (Some (values_in (shader_tree files u.name) u)) (Some (map (entry_in all) (names_in (shader_tree files u.name) u))) o) there

pub stock_constant_law : StockConstantLaw
stock_constant_law files text a l u is free there name none =
    let from = accepted_from files (scene_of_text text) a is in
    let scene : SceneValue = from.0 in
    let images : List Image = from.1 in
    let same : a ≡ accepted_with files scene images = from.2 in
    let used : slice_get scene.uses l.prim.surface ≡ Some u = ap (λ (v : AcceptedValue). slice_get v.scene.uses l.prim.surface) (sym same) ∙ there in
    let tree : shader_tree files u.name ≡ Ok constant_tree = ap (shader_tree files) name ∙ constant_read files free in
    subst (λ (v : AcceptedValue). IsFlat l v.set v.scene.uses) (sym same)
    (constant_law l (set_of files scene.uses images) scene.uses _ (bound_there files images scene.uses l.prim.surface u constant_tree from.3 used tree) refl none)
