-- Places of names.
use Rattle.std.proofs.Common.{◌≡◌, ℕ, suc, zero, ◌+◌, ◌<◌, Bool, true, false, ◌||◌, List, [], ◌∷◌, ◌++◌, length, map, take, get_or, Option, Some, None, cond, refl, sym, ap, ◌∙◌, subst, arith}
use Rattle.std.specs.Prelude.{slice_get, Result, Ok, Err, OnErr}
use Rattle.std.specs.Option.{option_map, option_or}
use Rattle.std.specs.Str.{bytes_eq}
use Rattle.std.proofs.lemmas.List.{length-map, append-nil, take_more, map-append}
use Rattle.scene.specs.declared.uses.ShaderUse.{ShaderUse}
use Rattle.acceptance.specs.declared.read.ReadShader.{ReadShader}
use Rattle.outside.specs.Asked.{AsksAll, AsksFront}
use Rattle.outside.proofs.Asking.{asks_all-none}
use Rattle.fixed_math.specs.Names.{last_place}
use Rattle.acceptance.specs.Shaders.{file_of}
use Rattle.acceptance.specs.Reading.{is_among, with_once, file_once, named_use, name_of}
use Rattle.acceptance.proofs.Names.{same_name}

-- the place of a name by that in the rest, and by the head
abbrev pub here_or : Option ℕ → Bool → Option ℕ
here_or o b = option_or (option_map suc o) (cond b (Some 0) None)

placed_by : (name n : List ℕ) (ns : List (List ℕ)) (o : Option ℕ) (b : Bool) → last_place name ns ≡ o → bytes_eq n name ≡ b → last_place name (n ∷ ns) ≡ here_or o b
placed_by name n ns o b e f = ap (λ q. here_or q (bytes_eq n name)) e ∙ ap (here_or o) f

among_by : (name n : List ℕ) (ns : List (List ℕ)) (b c : Bool) → bytes_eq n name ≡ b → is_among name ns ≡ c → is_among name (n ∷ ns) ≡ (b || c)
among_by name n ns b c e f = ap (λ d. d || is_among name ns) e ∙ ap (λ d. b || d) f

-- a name has a place where it is among the names
unplaced_step : (name n : List ℕ) (ns : List (List ℕ)) (o : Option ℕ) (b : Bool) → last_place name ns ≡ o → bytes_eq n name ≡ b
    → (o ≡ None → is_among name ns ≡ false) → here_or o b ≡ None → is_among name (n ∷ ns) ≡ false
unplaced_step name n ns (Some p) b e f rest h = absurd (cc h)
unplaced_step name n ns None true e f rest h = absurd (cc h)
unplaced_step name n ns None false e f rest h = among_by name n ns false false f (rest refl)

pub unplaced : (name : List ℕ) (names : List (List ℕ)) → last_place name names ≡ None → is_among name names ≡ false
unplaced name [] h = refl
unplaced name (n ∷ ns) h =
    unplaced_step name n ns (last_place name ns) (bytes_eq n name) refl refl (λ e. unplaced name ns e) h

among_step : (name n : List ℕ) (ns : List (List ℕ)) (p : ℕ) (o : Option ℕ) (b : Bool) → last_place name ns ≡ o → bytes_eq n name ≡ b
    → ((q : ℕ) → o ≡ Some q → is_among name ns ≡ true) → here_or o b ≡ Some p → is_among name (n ∷ ns) ≡ true
among_step name n ns p (Some q) true e f rest h = among_by name n ns true true f (rest q refl)
among_step name n ns p (Some q) false e f rest h = among_by name n ns false true f (rest q refl)
among_step name n ns p None true e f rest h = among_by name n ns true (is_among name ns) f refl
among_step name n ns p None false e f rest h = absurd (cc h)

pub among_placed : (name : List ℕ) (names : List (List ℕ)) (p : ℕ) → last_place name names ≡ Some p → is_among name names ≡ true
among_placed name [] p h = absurd (cc h)
among_placed name (n ∷ ns) p h =
    among_step name n ns p (last_place name ns) (bytes_eq n name) refl refl (λ q e. among_placed name ns q e) h

-- and it stands there
placed_step : (name n : List ℕ) (ns : List (List ℕ)) (p : ℕ) (o : Option ℕ) (b : Bool) → last_place name ns ≡ o → bytes_eq n name ≡ b
    → ((q : ℕ) → o ≡ Some q → slice_get ns q ≡ Some name) → here_or o b ≡ Some p → slice_get (n ∷ ns) p ≡ Some name
placed_step name n ns p (Some q) b e f rest h = let same : p ≡ suc q = cc h in ap (slice_get (n ∷ ns)) same ∙ rest q refl
placed_step name n ns p None true e f rest h = let same : p ≡ 0 = cc h in ap (slice_get (n ∷ ns)) same ∙ ap (λ m. Some m) (same_name n name f)
placed_step name n ns p None false e f rest h = absurd (cc h)

pub placed : (name : List ℕ) (names : List (List ℕ)) (p : ℕ) → last_place name names ≡ Some p → slice_get names p ≡ Some name
placed name [] p h = absurd (cc h)
placed name (n ∷ ns) p h =
    placed_step name n ns p (last_place name ns) (bytes_eq n name) refl refl (λ q e. placed name ns q e) h

-- a place stays with more names behind
pub place_stays : {A : Type 0} (xs ys : List A) (p : ℕ) (x : A) → slice_get xs p ≡ Some x → slice_get (xs ++ ys) p ≡ Some x
place_stays [] ys p x h = absurd (cc h)
place_stays (y ∷ xs) ys zero x h = h
place_stays (y ∷ xs) ys (suc p) x h = place_stays xs ys p x h

pub place_behind : {A : Type 0} (xs : List A) (x : A) → slice_get (xs ++ x ∷ []) (length xs) ≡ Some x
place_behind [] x = refl
place_behind (y ∷ xs) x = place_behind xs x

-- places of uses stay with more names behind
pub places_stay : (names more : List (List ℕ)) (places : List ℕ) (uses : List ShaderUse) → map (slice_get names) places ≡ map named_use uses
    → map (slice_get (names ++ more)) places ≡ map named_use uses
places_stay names more [] [] h = refl
places_stay names more [] (u ∷ us) h = absurd (cc h)
places_stay names more (p ∷ ps) [] h = absurd (cc h)
places_stay names more (p ∷ ps) (u ∷ us) h =
    let first : slice_get names p ≡ Some u.name = cc h in
    let rest : map (slice_get names) ps ≡ map named_use us = cc h in
    ap (λ o. o ∷ map (slice_get (names ++ more)) ps) (place_stays names more p u.name first) ∙ ap (λ os. Some u.name ∷ os) (places_stay names more ps us rest)

-- the place of a use
pub use_placed : (names : List (List ℕ)) (places : List ℕ) (uses : List ShaderUse) (i p : ℕ) (u : ShaderUse) → map (slice_get names) places ≡ map named_use uses
    → slice_get places i ≡ Some p → slice_get uses i ≡ Some u → slice_get names p ≡ Some u.name
use_placed names [] uses i p u h at is = absurd (cc at)
use_placed names (q ∷ ps) [] i p u h at is = absurd (cc is)
use_placed names (q ∷ ps) (v ∷ us) zero p u h at is =
    let first : slice_get names q ≡ Some v.name = cc h in
    let place : q ≡ p = cc at in
    let same : v ≡ u = cc is in
    ap (slice_get names) (sym place) ∙ first ∙ ap named_use same
use_placed names (q ∷ ps) (v ∷ us) (suc i) p u h at is =
    let rest : map (slice_get names) ps ≡ map named_use us = cc h in
    use_placed names ps us i p u rest at is

pub as_many : (names : List (List ℕ)) (places : List ℕ) (uses : List ShaderUse) → map (slice_get names) places ≡ map named_use uses → length places ≡ length uses
as_many names places uses h = sym (length-map places (slice_get names)) ∙ ap length h ∙ length-map uses named_use

-- a shader at a place
pub shader_named : (shaders : List ReadShader) (p : ℕ) (s : ReadShader) (name : List ℕ) → slice_get (map name_of shaders) p ≡ Some name → s ≡ get_or shaders p s → s.name ≡ name
shader_named [] p s name h is = absurd (cc h)
shader_named (t ∷ ts) zero s name h is = ap name_of is ∙ cc h
shader_named (t ∷ ts) (suc p) s name h is = shader_named ts p s name h is

pub within : (shaders : List ReadShader) (p : ℕ) (name : List ℕ) → slice_get (map name_of shaders) p ≡ Some name → p < length shaders
within [] p name h = absurd (cc h)
within (t ∷ ts) zero name h = omega arith
within (t ∷ ts) (suc p) name h = let low = within ts p name h in omega (arith, low)

-- a name that is read already
found_at : (name : List ℕ) (names : List (List ℕ)) (shaders : List ReadShader) (p : ℕ) (o : Option ℕ) → names ≡ map name_of shaders → o ≡ last_place name names → o ≡ Some p
    → last_place name (map name_of shaders) ≡ Some p
found_at name names shaders p o table looked found = ap (last_place name) (sym table) ∙ sym looked ∙ found

pub placed_name : (name : List ℕ) (names : List (List ℕ)) (shaders : List ReadShader) (p : ℕ) {o : Option ℕ} → names ≡ map name_of shaders → o ≡ last_place name names → o ≡ Some p
    → slice_get (map name_of shaders) p ≡ Some name
placed_name name names shaders p {o} table looked found = placed name (map name_of shaders) p (found_at name names shaders p o table looked found)

pub once_asked : (name : List ℕ) (names : List (List ℕ)) (shaders : List ReadShader) (p : ℕ) (asked : Option (List (List ℕ))) {o : Option ℕ} → names ≡ map name_of shaders
    → o ≡ last_place name names → o ≡ Some p → AsksAll (file_once (map name_of shaders) name) asked asked
once_asked name names shaders p asked {o} table looked found =
    subst (λ b. AsksAll (cond b [] (file_of name ∷ [])) asked asked)
    (sym (among_placed name (map name_of shaders) p (found_at name names shaders p o table looked found))) (asks_all-none asked)

pub once_named : (name : List ℕ) (names : List (List ℕ)) (shaders : List ReadShader) (p : ℕ) {o : Option ℕ} → names ≡ map name_of shaders → o ≡ last_place name names → o ≡ Some p
    → map name_of shaders ≡ with_once (map name_of shaders) name
once_named name names shaders p {o} table looked found =
    sym (ap (λ b. cond b (map name_of shaders) (map name_of shaders ++ name ∷ [])) (among_placed name (map name_of shaders) p (found_at name names shaders p o table looked found)))

-- and one that isn't
pub unread_name : (name : List ℕ) (names : List (List ℕ)) (shaders : List ReadShader) {o : Option ℕ} → names ≡ map name_of shaders → o ≡ last_place name names → o ≡ None
    → is_among name (map name_of shaders) ≡ false
unread_name name names shaders table looked found = unplaced name (map name_of shaders) (ap (last_place name) (sym table) ∙ sym looked ∙ found)

pub once_asked_front : (name : List ℕ) (names : List (List ℕ)) (shaders : List ReadShader) (old new : Option (List (List ℕ))) {o : Option ℕ} → names ≡ map name_of shaders
    → o ≡ last_place name names → o ≡ None → AsksFront (file_of name ∷ []) old new → AsksFront (file_once (map name_of shaders) name) old new
once_asked_front name names shaders old new table looked found asks =
    subst (λ b. AsksFront (cond b [] (file_of name ∷ [])) old new) (sym (unread_name name names shaders table looked found)) asks

pub once_asked_all : (name : List ℕ) (names : List (List ℕ)) (shaders : List ReadShader) (old new : Option (List (List ℕ))) {o : Option ℕ} → names ≡ map name_of shaders
    → o ≡ last_place name names → o ≡ None → AsksAll (file_of name ∷ []) old new → AsksAll (file_once (map name_of shaders) name) old new
once_asked_all name names shaders old new table looked found asks =
    subst (λ b. AsksAll (cond b [] (file_of name ∷ [])) old new) (sym (unread_name name names shaders table looked found)) asks

pub once_more : (name : List ℕ) (names : List (List ℕ)) (shaders : List ReadShader) (new : List (List ℕ)) {o : Option ℕ} → names ≡ map name_of shaders
    → o ≡ last_place name names → o ≡ None → new ≡ map name_of shaders ++ name ∷ [] → new ≡ with_once (map name_of shaders) name
once_more name names shaders new table looked found is =
    is ∙ sym (ap (λ b. cond b (map name_of shaders) (map name_of shaders ++ name ∷ [])) (unread_name name names shaders table looked found))

pub place_behind_read : (name : List ℕ) (names new : List (List ℕ)) (shaders : List ReadShader) (place : ℕ) → names ≡ map name_of shaders → place ≡ length names
    → new ≡ map name_of shaders ++ name ∷ [] → slice_get new place ≡ Some name
place_behind_read name names new shaders place table at is =
    ap (slice_get new) (at ∙ ap length table) ∙ ap (λ ns. slice_get ns (length (map name_of shaders))) is ∙ place_behind (map name_of shaders) name

pub on_err : {T E P : Type 0} (r : Result T E) → P → OnErr r P
on_err (Ok x) p = tt
on_err (Err e) p = p

-- the names that are read go on, and places in them stay
pub more_names : (done : List (List ℕ)) (name : List ℕ) → (more : List (List ℕ)) × (with_once done name ≡ done ++ more)
more_names done name = by (is_among name done) refl
  where
    by : (b : Bool) → is_among name done ≡ b → (more : List (List ℕ)) × (with_once done name ≡ done ++ more)
    by true e = ([], ap (λ b. cond b done (done ++ name ∷ [])) e ∙ sym (append-nil done))
    by false e = (name ∷ [], ap (λ b. cond b done (done ++ name ∷ [])) e)

pub uses_placed : (uses : List ShaderUse) (i : ℕ) (u : ShaderUse) (done new : List (List ℕ)) (places more : List ℕ) (p : ℕ) → i < length uses → u ≡ get_or uses i u
    → new ≡ with_once done u.name → slice_get new p ≡ Some u.name → more ≡ places ++ p ∷ []
    → map (slice_get done) places ≡ map named_use (take i uses) → map (slice_get new) more ≡ map named_use (take (i + 1) uses)
uses_placed uses i u done new places more p low is once at added so_far =
    let m = more_names done u.name in
    let grown : new ≡ done ++ m.0 = once ∙ m.1 in
    let stay : map (slice_get new) places ≡ map named_use (take i uses) =
    ap (λ ns. map (slice_get ns) places) grown ∙ places_stay done m.0 places (take i uses) so_far in
    ap (map (slice_get new)) added ∙ map-append (slice_get new) places (p ∷ [])
    ∙ ap (λ os. os ++ slice_get new p ∷ []) stay ∙ ap (λ o. map named_use (take i uses) ++ o ∷ []) at
    ∙ sym (map-append named_use (take i uses) (u ∷ [])) ∙ ap (map named_use) (sym (take_more uses i u low ∙ ap (λ v. take i uses ++ v ∷ []) (sym is)))
