-- The set that is made of the shaders that are read is that of the files that are held.
use Rattle.std.proofs.Common.{◌≡◌, ℕ, zero, suc, Bool, true, false, not, ◌||◌, List, [], ◌∷◌, filter, map, Option, Some, None, Ok, All, cond, refl, sym, ap, ◌∙◌, subst}
use Rattle.std.specs.Prelude.{slice_get}
use Rattle.std.specs.List.{cons_option}
use Rattle.std.specs.Option.{option_map, option_or}
use Rattle.std.specs.Str.{bytes_eq}
use Rattle.std.proofs.lemmas.List.Elements.{All-head, All-tail}
use Rattle.std.proofs.lemmas.Option.{slice_get-map}
use Rattle.texture.specs.Images.{Image}
use Rattle.acceptance.specs.Textures.{names_at, names_with, all_names, texture_names, entries_in}
use Rattle.outside.specs.Library.{Files}
use Rattle.scene.specs.declared.uses.ShaderUse.{ShaderUse}
use Rattle.sl_ast.specs.declared.typed.Value.{Value}
use Rattle.sl_ast.specs.Typed.{Tree}
use Rattle.fixed_math.specs.Names.{last_place}
use Rattle.shader_binding.specs.Sets.{SetValue}
use Rattle.acceptance.specs.declared.read.ReadShader.{ReadShader}
use Rattle.acceptance.specs.declared.shaders.UsedShaders.{UsedShaders}
use Rattle.acceptance.specs.Shaders.{shader_tree, without, distinct, use_name, shader_names}
use Rattle.acceptance.specs.Places.{place_or, place_in}
use Rattle.acceptance.specs.Set.{tree_in, trees_of, values_in, names_in, names_of_uses, set_of}
use Rattle.acceptance.specs.Reading.{name_of, tree_read, named_use, is_among, IsReadOf, ArePlaced, values_with, values_at, all_values, names_read, set_read}
use Rattle.acceptance.proofs.Names.{itself}
use Rattle.acceptance.proofs.Places.{among_placed}

-- ---- names that stand once each
abbrev pub Once : List (List ℕ) → Type 0
Once [] = Unit {0}
Once (n ∷ ns) = (is_among n ns ≡ false) × Once ns

pub or_false : (a b : Bool) → (a || b) ≡ false → (a ≡ false) × (b ≡ false)
or_false true b e = absurd (cc e)
or_false false b e = (refl, e)

both_false : (a b : Bool) → a ≡ false → b ≡ false → (a || b) ≡ false
both_false a b e f = ap (λ x. x || b) e ∙ f

-- what isn't among names isn't among some of them
fewer : (p : List ℕ → Bool) (m : List ℕ) (ns : List (List ℕ)) → is_among m ns ≡ false → is_among m (filter p ns) ≡ false
fewer p m [] h = h
fewer p m (n ∷ ns) h =
    let o = or_false (bytes_eq n m) (is_among m ns) h in
    let rest = fewer p m ns o.1 in
    by (p n) o.0 rest
  where
    by : (b : Bool) → bytes_eq n m ≡ false → is_among m (filter p ns) ≡ false → is_among m (cond b (n ∷ filter p ns) (filter p ns)) ≡ false
    by true e f = both_false (bytes_eq n m) (is_among m (filter p ns)) e f
    by false e f = f

once_fewer : (p : List ℕ → Bool) (ns : List (List ℕ)) → Once ns → Once (filter p ns)
once_fewer p [] h = tt
once_fewer p (n ∷ ns) h =
    by (p n) (fewer p n ns h.0) (once_fewer p ns h.1)
  where
    by : (b : Bool) → is_among n (filter p ns) ≡ false → Once (filter p ns) → Once (cond b (n ∷ filter p ns) (filter p ns))
    by true e f = (e, f)
    by false e f = f

gone : (m : List ℕ) (ns : List (List ℕ)) → is_among m (without m ns) ≡ false
gone m [] = refl
gone m (n ∷ ns) = by (bytes_eq n m) refl (gone m ns)
  where
    by : (b : Bool) → bytes_eq n m ≡ b → is_among m (without m ns) ≡ false → is_among m (cond (not b) (n ∷ without m ns) (without m ns)) ≡ false
    by true e rest = rest
    by false e rest = both_false (bytes_eq n m) (is_among m (without m ns)) e rest

pub once_distinct : (ns : List (List ℕ)) → Once (distinct ns)
once_distinct [] = tt
once_distinct (n ∷ ns) = (gone n (distinct ns), once_fewer (λ m. not (bytes_eq m n)) (distinct ns) (once_distinct ns))

unplaced : (name : List ℕ) (ns : List (List ℕ)) → is_among name ns ≡ false → last_place name ns ≡ None
unplaced name ns h = by (last_place name ns) refl
  where
    by : (o : Option ℕ) → last_place name ns ≡ o → last_place name ns ≡ None
    by None e = e
    by (Some k) e = absurd (cc (sym h ∙ among_placed name ns k e))

-- such a name is found at its place
pub placed_once : (ns : List (List ℕ)) (k : ℕ) (name : List ℕ) → Once ns → slice_get ns k ≡ Some name → last_place name ns ≡ Some k
placed_once [] k name h e = absurd (cc e)
placed_once (n ∷ ns) zero name h e =
    let same : n ≡ name = cc e in
    let rest : last_place name ns ≡ None = unplaced name ns (ap (λ m. is_among m ns) (sym same) ∙ h.0) in
    let head : bytes_eq n name ≡ true = ap (λ m. bytes_eq m name) same ∙ itself name in
    ap (λ o. option_or (option_map suc o) (cond (bytes_eq n name) (Some 0) None)) rest ∙ ap (λ b. cond b (Some 0) None) head
placed_once (n ∷ ns) (suc k) name h e =
    ap (λ o. option_or (option_map suc o) (cond (bytes_eq n name) (Some 0) None)) (placed_once ns k name h.1 e)

-- ---- trees
trees_read : (files : Files) (read : List ReadShader) → All (IsReadOf files) read → trees_of files (map name_of read) ≡ map tree_read read
trees_read files [] all = refl
trees_read files (s ∷ ss) all =
    ap (λ r. cons_option (tree_in r) (trees_of files (map name_of ss))) (All-head (IsReadOf files) s ss all).tree
    ∙ ap (λ l. tree_read s ∷ l) (trees_read files ss (All-tail (IsReadOf files) s ss all))

-- ---- places
places_same : (names : List (List ℕ)) (uses : List ShaderUse) (places : List ℕ) → Once names → map (slice_get names) places ≡ map named_use uses
    → places ≡ map (λ u. place_in names u.name) uses
places_same names [] [] once h = refl
places_same names [] (p ∷ ps) once h = absurd (cc h)
places_same names (u ∷ us) [] once h = absurd (cc h)
places_same names (u ∷ us) (p ∷ ps) once h =
    let here : slice_get names p ≡ Some u.name = cc h in
    let rest : map (slice_get names) ps ≡ map named_use us = cc h in
    ap (λ q. q ∷ ps) (sym (ap place_or (placed_once names p u.name once here))) ∙ ap (λ l. place_in names u.name ∷ l) (places_same names us ps once rest)

-- ---- values
there : (read : List ReadShader) (k : ℕ) (name : List ℕ) → slice_get (map name_of read) k ≡ Some name → (s : ReadShader) × (slice_get read k ≡ Some s) × (s.name ≡ name)
there [] k name e = absurd (cc e)
there (s ∷ ss) zero name e = (s, refl, cc e)
there (s ∷ ss) (suc k) name e = there ss k name e

pub each_there : {A : Type 0} (P : A → Type 0) (xs : List A) (k : ℕ) (x : A) → All P xs → slice_get xs k ≡ Some x → P x
each_there P [] k x all e = absurd (cc e)
each_there P (y ∷ ys) zero x all e = let same : y ≡ x = cc e in subst P same (All-head P y ys all)
each_there P (y ∷ ys) (suc k) x all e = each_there P ys k x (All-tail P y ys all) e

value_same : (files : Files) (read : List ReadShader) (u : ShaderUse) (k : ℕ) → All (IsReadOf files) read → slice_get (map name_of read) k ≡ Some u.name
    → values_at read u k ≡ values_in (shader_tree files u.name) u
value_same files read u k all e =
    let t = there read k u.name e in
    let is : IsReadOf files t.0 = each_there (IsReadOf files) read k t.0 all t.1 in
    let tree : shader_tree files u.name ≡ Ok (tree_read t.0) = ap (shader_tree files) (sym t.2) ∙ is.tree in
    ap (λ o. values_with o u) t.1 ∙ sym (ap (λ r. values_in r u) tree)

values_same : (files : Files) (read : List ReadShader) (uses : List ShaderUse) (places : List ℕ) → All (IsReadOf files) read → map (slice_get (map name_of read)) places ≡ map named_use uses
    → all_values read uses places ≡ map (λ u. values_in (shader_tree files u.name) u) uses
values_same files read [] [] all h = refl
values_same files read [] (p ∷ ps) all h = absurd (cc h)
values_same files read (u ∷ us) [] all h = absurd (cc h)
values_same files read (u ∷ us) (p ∷ ps) all h =
    let here : slice_get (map name_of read) p ≡ Some u.name = cc h in
    let rest : map (slice_get (map name_of read)) ps ≡ map named_use us = cc h in
    ap (λ v. v ∷ all_values read us ps) (value_same files read u p all here) ∙ ap (λ l. values_in (shader_tree files u.name) u ∷ l) (values_same files read us ps all rest)

-- ---- names of textures
name_same : (files : Files) (read : List ReadShader) (u : ShaderUse) (k : ℕ) → All (IsReadOf files) read → slice_get (map name_of read) k ≡ Some u.name
    → names_at (slice_get (map tree_read read) k) (values_at read u k) ≡ names_in (shader_tree files u.name) u
name_same files read u k all e =
    let t = there read k u.name e in
    let is : IsReadOf files t.0 = each_there (IsReadOf files) read k t.0 all t.1 in
    let tree : shader_tree files u.name ≡ Ok (tree_read t.0) = ap (shader_tree files) (sym t.2) ∙ is.tree in
    let at : slice_get (map tree_read read) k ≡ Some (tree_read t.0) = slice_get-map tree_read read k ∙ ap (λ o. option_map tree_read o) t.1 in
    ap (λ o. names_at o (values_at read u k)) at ∙ ap (λ o. names_with (tree_read t.0) (values_with o u)) t.1 ∙ sym (ap (λ r. names_in r u) tree)

names_same : (files : Files) (read : List ReadShader) (uses : List ShaderUse) (places : List ℕ) → All (IsReadOf files) read → map (slice_get (map name_of read)) places ≡ map named_use uses
    → all_names (map tree_read read) places (all_values read uses places) ≡ names_of_uses files uses
names_same files read [] [] all h = refl
names_same files read [] (p ∷ ps) all h = absurd (cc h)
names_same files read (u ∷ us) [] all h = absurd (cc h)
names_same files read (u ∷ us) (p ∷ ps) all h =
    let here : slice_get (map name_of read) p ≡ Some u.name = cc h in
    let rest : map (slice_get (map name_of read)) ps ≡ map named_use us = cc h in
    ap (λ ns. ns ∷ all_names (map tree_read read) ps (all_values read us ps)) (name_same files read u p all here)
    ∙ ap (λ l. names_in (shader_tree files u.name) u ∷ l) (names_same files read us ps all rest)

-- what is named over what is read
pub named_same : (files : Files) (uses : List ShaderUse) (shaders : UsedShaders) (bound : List (List Value)) → All (IsReadOf files) shaders.read → ArePlaced uses shaders
    → bound ≡ all_values shaders.read uses shaders.of_use → names_read shaders bound ≡ names_of_uses files uses
named_same files uses shaders bound all placed is =
    ap (λ vss. all_names (map tree_read shaders.read) shaders.of_use vss) is ∙ names_same files shaders.read uses shaders.of_use all placed

-- ---- the set
pub set_same : (files : Files) (uses : List ShaderUse) (shaders : UsedShaders) (images : List Image) → All (IsReadOf files) shaders.read → map name_of shaders.read ≡ shader_names uses
    → ArePlaced uses shaders → set_read shaders uses images ≡ set_of files uses images
set_same files uses shaders images all names placed =
    let trees : map tree_read shaders.read ≡ trees_of files (shader_names uses) = sym (trees_read files shaders.read all) ∙ ap (trees_of files) names in
    let once : Once (map name_of shaders.read) = subst Once (sym names) (once_distinct (map use_name uses)) in
    let places : shaders.of_use ≡ map (λ u. place_in (shader_names uses) u.name) uses =
    places_same (map name_of shaders.read) uses shaders.of_use once placed ∙ ap (λ ns. map (λ u. place_in ns u.name) uses) names in
    let bound : List (List Value) = all_values shaders.read uses shaders.of_use in
    let values = values_same files shaders.read uses shaders.of_use all placed in
    let looks = named_same files uses shaders bound all placed refl in
    let set : List Tree → List ℕ → List (List Value) → List (List (List ℕ)) → SetValue = λ ts ns vss nss.
    record { trees = ts; of_use = ns; bound = vss; look_ups = entries_in (texture_names nss) nss; textures = images } in
    let named : List ℕ = map (λ u. place_in (shader_names uses) u.name) uses in
    ap (λ (ts : List Tree). set ts shaders.of_use bound (names_read shaders bound)) trees
    ∙ ap (λ (ns : List ℕ). set (trees_of files (shader_names uses)) ns bound (names_read shaders bound)) places
    ∙ ap (λ (vss : List (List Value)). set (trees_of files (shader_names uses)) named vss (names_read shaders bound)) values
    ∙ ap (λ (nss : List (List (List ℕ))). set (trees_of files (shader_names uses)) named (map (λ u. values_in (shader_tree files u.name) u) uses) nss) looks
