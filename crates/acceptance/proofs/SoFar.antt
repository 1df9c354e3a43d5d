-- The shaders that are read on the way through a scene's uses.
use Rattle.std.proofs.Common.{◌≡◌, ⊎_elim, ℕ, suc, ◌+◌, ◌<◌, ◌≤◌, true, false, List, [], ◌∷◌, ◌++◌, length, get_or, map, drop, drop-cons, Option, Some, None, Result, Ok, All, cond, refl, sym, ap, ◌∙◌, subst, append_assoc, arith, add-one}
use Rattle.std.proofs.lemmas.List.{append-nil, drop_all}
use Rattle.std.proofs.lemmas.Bool.{cases_Bool}
use Rattle.outside.specs.Causes.{Told}
use Rattle.outside.specs.Library.{Files}
use Rattle.outside.specs.Asked.{AsksAll, AsksFront}
use Rattle.outside.proofs.Asking.{asks_all-none, asks_all-more}
use Rattle.scene.specs.declared.uses.ShaderUse.{ShaderUse}
use Rattle.acceptance.specs.declared.refusal.Refusal.{Refusal}
use Rattle.acceptance.specs.declared.read.ReadShader.{ReadShader}
use Rattle.acceptance.specs.Causes.{cause_in}
use Rattle.acceptance.specs.Shaders.{file_of, shader_tree, distinct, use_name, shader_names, shaders_refused, shaders_asked}
use Rattle.acceptance.specs.Reading.{name_of, is_among, with_once, file_once, IsReadOf, ReadsNext}
use Rattle.acceptance.specs.Answers.{Because}
use Rattle.acceptance.proofs.Names.{left, left_none, left_in, left_out}
use Rattle.acceptance.proofs.ReadAll.{Parted, files_of, asked_behind_read, one_refused, one_asked, all_asked}

-- these shaders are read and their files asked for, the others are left
pub record SoFar (uses : List ShaderUse) (i : ℕ) (shaders : List ReadShader) (held_first held : Option Files) (asked_first asked_now : Option (List (List ℕ)))
    (faults_first faults : ℕ) : Type 0 where
  pub same : held ≡ held_first
  pub parts : Parted (shader_names uses) shaders (left (map name_of shaders) (distinct (map use_name (drop i uses))))
  pub read : Told held_first (λ files. All (IsReadOf files) shaders)
  pub asked : AsksAll (files_of shaders) asked_first asked_now
  pub later : faults_first ≤ faults

none_read : (held : Option Files) → Told held (λ files. All (IsReadOf files) [])
none_read None = tt
none_read (Some files) = λ k d low. absurd (omega (arith, low))

pub so_far-start : (uses : List ShaderUse) (held : Option Files) (asked : Option (List (List ℕ))) (faults : ℕ) → SoFar uses 0 [] held held asked asked faults faults
so_far-start uses held asked faults = record {
  same = refl;
  parts = left_none (shader_names uses);
  read = none_read held;
  asked = asks_all-none asked;
  later = omega arith;
}

-- the names from a use on
ahead : (uses : List ShaderUse) (i : ℕ) (u : ShaderUse) → i < length uses → u ≡ get_or uses i u
    → map use_name (drop i uses) ≡ u.name ∷ map use_name (drop (i + 1) uses)
ahead uses i u low is =
    ap (map use_name) (drop-cons uses i u low) ∙ ap (λ v. use_name v ∷ map use_name (drop (suc i) uses)) (sym is)
    ∙ ap (λ k. use_name u ∷ map use_name (drop k uses)) (sym (add-one i))

still : (names rest done new : List (List ℕ)) (name : List ℕ) (total : List (List ℕ)) → names ≡ name ∷ rest → is_among name done ≡ true
    → done ++ left done (distinct names) ≡ total → new ≡ with_once done name → new ++ left new (distinct rest) ≡ total
still names rest done new name total ns among parts is =
    let same : new ≡ done = is ∙ ap (λ b. cond b done (done ++ name ∷ [])) among in
    subst (λ ds. ds ++ left ds (distinct rest) ≡ total) (sym same)
    (ap (λ ls. done ++ ls) (sym (left_in done name rest among) ∙ ap (λ xs. left done (distinct xs)) (sym ns)) ∙ parts)

further : (names rest done new : List (List ℕ)) (name : List ℕ) (total : List (List ℕ)) → names ≡ name ∷ rest → is_among name done ≡ false
    → done ++ left done (distinct names) ≡ total → new ≡ with_once done name → new ++ left new (distinct rest) ≡ total
further names rest done new name total ns among parts is =
    let more : new ≡ done ++ name ∷ [] = is ∙ ap (λ b. cond b done (done ++ name ∷ [])) among in
    subst (λ ds. ds ++ left ds (distinct rest) ≡ total) (sym more)
    (append_assoc done (name ∷ []) (left (done ++ name ∷ []) (distinct rest))
    ∙ ap (λ ls. done ++ ls) (sym (left_out done name rest among) ∙ ap (λ xs. left done (distinct xs)) (sym ns)) ∙ parts)

map-append_one : (names : List (List ℕ)) (name : List ℕ) → map file_of (names ++ name ∷ []) ≡ map file_of names ++ file_of name ∷ []
map-append_one [] name = refl
map-append_one (n ∷ ns) name = ap (λ fs. file_of n ∷ fs) (map-append_one ns name)

files_once : (done new : List (List ℕ)) (name : List ℕ) → new ≡ with_once done name → map file_of new ≡ map file_of done ++ file_once done name
files_once done new name is =
    ⊎_elim
    (λ (t : is_among name done ≡ true).
    ap (map file_of) (is ∙ ap (λ b. cond b done (done ++ name ∷ [])) t) ∙ sym (append-nil (map file_of done))
    ∙ ap (λ b. map file_of done ++ cond b [] (file_of name ∷ [])) (sym t))
    (λ (f : is_among name done ≡ false).
    ap (map file_of) (is ∙ ap (λ b. cond b done (done ++ name ∷ [])) f) ∙ map-append_one done name
    ∙ ap (λ b. map file_of done ++ cond b [] (file_of name ∷ [])) (sym f))
    (cases_Bool (is_among name done))

read_more : {A : Type 0} (held held_now : Option Files) (name : List ℕ) (old new : List ReadShader) (r : Result A Refusal) → held_now ≡ held → Told held (λ files. All (IsReadOf files) old)
    → (x : A) → r ≡ Ok x → Told held_now (λ files. ReadsNext files name old new r) → Told held (λ files. All (IsReadOf files) new)
read_more None held_now name old new r same all x is reads = tt
read_more (Some files) held_now name old new r same all x is reads =
    let told : Told (Some files) (λ fs. ReadsNext fs name old new r) = subst (λ h. Told h (λ fs. ReadsNext fs name old new r)) same reads in
    let go : ReadsNext files name old new (Ok x) = subst (λ q. ReadsNext files name old new q) is told in
    go all

-- one use more is looked at
pub so_far-next : {A : Type 0} (uses : List ShaderUse) (i : ℕ) (u : ShaderUse) (old new : List ReadShader) (held_first held held_new : Option Files)
    (asked_first asked asked_new : Option (List (List ℕ))) (faults_first faults faults_new : ℕ) (r : Result A Refusal) (x : A)
    → SoFar uses i old held_first held asked_first asked faults_first faults → i < length uses → u ≡ get_or uses i u → r ≡ Ok x → held_new ≡ held
    → map name_of new ≡ with_once (map name_of old) u.name → AsksAll (file_once (map name_of old) u.name) asked asked_new
    → Told held (λ files. ReadsNext files u.name old new r) → faults ≤ faults_new
    → SoFar uses (i + 1) new held_first held_new asked_first asked_new faults_first faults_new
so_far-next uses i u old new held_first held held_new asked_first asked asked_new faults_first faults faults_new r x s low is ok same names asks reads later =
    let from = ahead uses i u low is in
    let rest = map use_name (drop (i + 1) uses) in
    record {
      same = same ∙ s.same;
      parts = ⊎_elim
          (λ (t : is_among u.name (map name_of old) ≡ true). still (map use_name (drop i uses)) rest (map name_of old) (map name_of new) u.name (shader_names uses) from t s.parts names)
          (λ (f : is_among u.name (map name_of old) ≡ false). further (map use_name (drop i uses)) rest (map name_of old) (map name_of new) u.name (shader_names uses) from f s.parts names)
          (cases_Bool (is_among u.name (map name_of old)));
      read = read_more held_first held u.name old new r s.same s.read x ok reads;
      asked = subst (λ fs. AsksAll fs asked_first asked_new) (sym (files_once (map name_of old) (map name_of new) u.name names))
          (asks_all-more (files_of old) (file_once (map name_of old) u.name) asked_first asked asked_new s.asked asks);
      later = omega (arith, s.later, later);
    }

-- the name of the use is the first that is left
first_left : (uses : List ShaderUse) (i : ℕ) (u : ShaderUse) (shaders : List ReadShader) → i < length uses → u ≡ get_or uses i u → is_among u.name (map name_of shaders) ≡ false
    → Parted (shader_names uses) shaders (left (map name_of shaders) (distinct (map use_name (drop i uses))))
    → Parted (shader_names uses) shaders (u.name ∷ left (map name_of shaders ++ u.name ∷ []) (distinct (map use_name (drop (i + 1) uses))))
first_left uses i u shaders low is unread parts =
    let done = map name_of shaders in
    let rest = map use_name (drop (i + 1) uses) in
    ap (λ ls. done ++ ls) (sym (left_out done u.name rest unread) ∙ ap (λ xs. left done (distinct xs)) (sym (ahead uses i u low is))) ∙ parts

-- the shader of the use is refused
pub so_far-refused : (uses : List ShaderUse) (i : ℕ) (u : ShaderUse) (shaders : List ReadShader) (held_first held : Option Files)
    (asked_first asked : Option (List (List ℕ))) (faults_first faults : ℕ) (r : Refusal)
    → SoFar uses i shaders held_first held asked_first asked faults_first faults → i < length uses → u ≡ get_or uses i u → is_among u.name (map name_of shaders) ≡ false
    → Told held (λ files. Because r (cause_in (shader_tree files u.name))) → Told held_first (λ files. Because r (shaders_refused files (shader_names uses)))
so_far-refused uses i u shaders None held asked_first asked faults_first faults r s low is unread because = tt
so_far-refused uses i u shaders (Some files) held asked_first asked faults_first faults r s low is unread because =
    let rest = left (map name_of shaders ++ u.name ∷ []) (distinct (map use_name (drop (i + 1) uses))) in
    let told : Told (Some files) (λ fs. Because r (cause_in (shader_tree fs u.name))) = subst (λ h. Told h (λ fs. Because r (cause_in (shader_tree fs u.name)))) s.same because in
    one_refused files (shader_names uses) shaders u.name rest r (first_left uses i u shaders low is unread s.parts) s.read told

pub so_far-asked : (uses : List ShaderUse) (i : ℕ) (u : ShaderUse) (shaders : List ReadShader) (held_first held : Option Files)
    (asked_first asked asked_new : Option (List (List ℕ))) (faults_first faults : ℕ)
    → SoFar uses i shaders held_first held asked_first asked faults_first faults → i < length uses → u ≡ get_or uses i u → is_among u.name (map name_of shaders) ≡ false
    → AsksFront (file_once (map name_of shaders) u.name) asked asked_new → Told held_first (λ files. AsksFront (shaders_asked files (shader_names uses)) asked_first asked_new)
so_far-asked uses i u shaders None held asked_first asked asked_new faults_first faults s low is unread asks = tt
so_far-asked uses i u shaders (Some files) held asked_first asked asked_new faults_first faults s low is unread asks =
    let rest = left (map name_of shaders ++ u.name ∷ []) (distinct (map use_name (drop (i + 1) uses))) in
    let one : AsksFront (file_of u.name ∷ []) asked asked_new = subst (λ b. AsksFront (cond b [] (file_of u.name ∷ [])) asked asked_new) unread asks in
    one_asked files (shader_names uses) shaders u.name rest asked_first asked asked_new (first_left uses i u shaders low is unread s.parts) s.read s.asked one

-- all uses are looked at
pub so_far-names : (uses : List ShaderUse) (i : ℕ) (shaders : List ReadShader) (held_first held : Option Files) (asked_first asked : Option (List (List ℕ))) (faults_first faults : ℕ)
    → SoFar uses i shaders held_first held asked_first asked faults_first faults → length uses ≤ i → map name_of shaders ≡ shader_names uses
so_far-names uses i shaders held_first held asked_first asked faults_first faults s end =
    sym (append-nil (map name_of shaders)) ∙ ap (λ us. map name_of shaders ++ left (map name_of shaders) (distinct (map use_name us))) (sym (drop_all i uses end)) ∙ s.parts

-- whatever is left, the files of those that are read come first
pub so_far-behind : (uses : List ShaderUse) (i : ℕ) (shaders : List ReadShader) (held_first held : Option Files) (asked_first asked : Option (List (List ℕ))) (faults_first faults : ℕ)
    → SoFar uses i shaders held_first held asked_first asked faults_first faults → Told held_first (λ files. AsksFront (shaders_asked files (shader_names uses)) asked_first asked)
so_far-behind uses i shaders None held asked_first asked faults_first faults s = tt
so_far-behind uses i shaders (Some files) held asked_first asked faults_first faults s =
    let rest = left (map name_of shaders) (distinct (map use_name (drop i uses))) in
    all_asked files (shader_names uses) shaders rest asked_first asked s.parts s.read s.asked

-- all uses are looked at: the files of all shaders are asked for
pub so_far-all_asked : (uses : List ShaderUse) (i : ℕ) (shaders : List ReadShader) (held_first held : Option Files) (asked_first asked : Option (List (List ℕ))) (faults_first faults : ℕ)
    → SoFar uses i shaders held_first held asked_first asked faults_first faults → length uses ≤ i → Told held_first (λ files. AsksAll (shaders_asked files (shader_names uses)) asked_first asked)
so_far-all_asked uses i shaders None held asked_first asked faults_first faults s end = tt
so_far-all_asked uses i shaders (Some files) held asked_first asked faults_first faults s end =
    let names = so_far-names uses i shaders (Some files) held asked_first asked faults_first faults s end in
    let all : shaders_asked files (shader_names uses) ≡ files_of shaders =
    ap (shaders_asked files) (sym names ∙ sym (append-nil (map name_of shaders))) ∙ asked_behind_read files shaders [] s.read ∙ append-nil (files_of shaders) in
    subst (λ fs. AsksAll fs asked_first asked) (sym all) s.asked
