-- What is read of a row of shaders, one after the other.
use Rattle.std.proofs.Common.{◌≡◌, ℕ, List, [], ◌∷◌, ◌++◌, map, Option, None, All, refl, sym, ap, ◌∙◌, subst}
use Rattle.std.proofs.lemmas.List.{append-nil}
use Rattle.std.proofs.lemmas.List.Elements.{All-head, All-tail}
use Rattle.outside.specs.Library.{Files}
use Rattle.outside.specs.Asked.{AsksAll, AsksFront}
use Rattle.outside.proofs.Asking.{asks_front-all, asks_front-behind, asks_front-before}
use Rattle.acceptance.specs.declared.refusal.Refusal.{Refusal}
use Rattle.acceptance.specs.declared.refusal.Refusal.TheVariants.{Missing, At, ReadFault, NoMemory}
use Rattle.acceptance.specs.declared.read.ReadShader.{ReadShader}
use Rattle.acceptance.specs.Causes.{Cause, cause_in, or_else}
use Rattle.acceptance.specs.Shaders.{file_of, shader_tree, shaders_refused, shaders_asked, asked_behind}
use Rattle.acceptance.specs.Reading.{name_of, IsReadOf}
use Rattle.acceptance.specs.Answers.{Because}

-- the files of these shaders
abbrev pub files_of : List ReadShader → List (List ℕ)
files_of shaders = map file_of (map name_of shaders)

-- a refusal has the first cause
pub because_first : (r : Refusal) (cause others : Option Cause) → Because r cause → Because r (or_else cause others)
because_first (Missing file) cause others h = ap (λ o. or_else o others) h
because_first (At file line code) cause others h = ap (λ o. or_else o others) h
because_first ReadFault cause others h = tt
because_first NoMemory cause others h = tt

-- none of the shaders that are read is refused
pub refused_behind : (files : Files) (shaders : List ReadShader) (names : List (List ℕ)) → All (IsReadOf files) shaders
    → shaders_refused files (map name_of shaders ++ names) ≡ shaders_refused files names
refused_behind files [] names all = refl
refused_behind files (s ∷ ss) names all =
    ap (λ t. or_else (cause_in t) (shaders_refused files (map name_of ss ++ names))) (All-head (IsReadOf files) s ss all).tree ∙ refused_behind files ss names (All-tail (IsReadOf files) s ss all)

-- and their files are asked for
pub asked_behind_read : (files : Files) (shaders : List ReadShader) (names : List (List ℕ)) → All (IsReadOf files) shaders
    → shaders_asked files (map name_of shaders ++ names) ≡ files_of shaders ++ shaders_asked files names
asked_behind_read files [] names all = refl
asked_behind_read files (s ∷ ss) names all =
    ap (λ t. file_of s.name ∷ asked_behind t (shaders_asked files (map name_of ss ++ names))) (All-head (IsReadOf files) s ss all).tree
    ∙ ap (λ fs. file_of s.name ∷ fs) (asked_behind_read files ss names (All-tail (IsReadOf files) s ss all))

-- the shaders that are read, and those that are left
abbrev pub Parted : List (List ℕ) → List ReadShader → List (List ℕ) → Type 0
Parted names shaders rest = map name_of shaders ++ rest ≡ names

-- one more shader that is refused
pub one_refused : (files : Files) (names : List (List ℕ)) (shaders : List ReadShader) (name : List ℕ) (rest : List (List ℕ)) (r : Refusal)
    → Parted names shaders (name ∷ rest) → All (IsReadOf files) shaders → Because r (cause_in (shader_tree files name)) → Because r (shaders_refused files names)
one_refused files names shaders name rest r parts all because =
    subst (λ ns. Because r (shaders_refused files ns)) parts
    (subst (λ o. Because r o) (sym (refused_behind files shaders (name ∷ rest) all)) (because_first r (cause_in (shader_tree files name)) (shaders_refused files rest) because))

-- one more file that is asked for
pub one_asked : (files : Files) (names : List (List ℕ)) (shaders : List ReadShader) (name : List ℕ) (rest : List (List ℕ)) (o p q : Option (List (List ℕ)))
    → Parted names shaders (name ∷ rest) → All (IsReadOf files) shaders → AsksAll (files_of shaders) o p → AsksFront (file_of name ∷ []) p q
    → AsksFront (shaders_asked files names) o q
one_asked files names shaders name rest o p q parts all before one =
    let behind : List (List ℕ) = asked_behind (shader_tree files name) (shaders_asked files rest) in
    subst (λ ns. AsksFront (shaders_asked files ns) o q) parts
    (subst (λ fs. AsksFront fs o q) (sym (asked_behind_read files shaders (name ∷ rest) all))
    (asks_front-behind (files_of shaders) (file_of name ∷ behind) o p q before (asks_front-before (file_of name ∷ []) behind p q one)))

-- whatever is left
pub all_asked : (files : Files) (names : List (List ℕ)) (shaders : List ReadShader) (rest : List (List ℕ)) (o p : Option (List (List ℕ)))
    → Parted names shaders rest → All (IsReadOf files) shaders → AsksAll (files_of shaders) o p → AsksFront (shaders_asked files names) o p
all_asked files names shaders rest o p parts all before =
    subst (λ ns. AsksFront (shaders_asked files ns) o p) parts
    (subst (λ fs. AsksFront fs o p) (sym (asked_behind_read files shaders rest all))
    (asks_front-before (files_of shaders) (shaders_asked files rest) o p (asks_front-all (files_of shaders) o p before)))

pub none_refused : (files : Files) (names : List (List ℕ)) (shaders : List ReadShader) → map name_of shaders ≡ names → All (IsReadOf files) shaders
    → shaders_refused files names ≡ None
none_refused files names shaders parts all =
    ap (shaders_refused files) (sym parts ∙ sym (append-nil (map name_of shaders))) ∙ refused_behind files shaders [] all
