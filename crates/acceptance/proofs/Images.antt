-- The textures that are fetched on the way through their names.
use Rattle.std.proofs.Common.{◌≡◌, ℕ, ◌+◌, ◌<◌, ◌≤◌, Bool, true, false, ◌&&◌, List, [], ◌∷◌, ◌++◌, length, map, take, drop, get_or, Option, Some, None, Result, Ok, Err, cond, refl, sym, ap, ◌∙◌, subst, append_assoc, arith}
use Rattle.std.specs.Prelude.{nat_lt, nat_le}
use Rattle.std.proofs.lemmas.List.{map-append, take_more, drop_all}
use Rattle.std.proofs.lemmas.Bool.{lt-ltb, leb-true, and_parts}
use Rattle.outside.specs.Causes.{Told}
use Rattle.outside.specs.Library.{Files, held_as, Fetches, IsHeldAs, IsOfSize}
use Rattle.outside.specs.Asked.{AsksAll, AsksFront}
use Rattle.outside.specs.declared.library.Fetch.{Fetch}
use Rattle.outside.specs.declared.library.Fetch.TheVariants as fetches
use Rattle.outside.proofs.Asking.{asks_all-none, asks_all-more, asks_front-all, asks_front-behind, asks_front-before}
use Rattle.texture.specs.Images.{Image, image_bytes}
use Rattle.acceptance.specs.declared.refusal.Refusal.{Refusal}
use Rattle.acceptance.specs.declared.refusal.Refusal.TheVariants.{Missing, At, ReadFault, NoMemory}
use Rattle.acceptance.specs.declared.refusal.FileId.TheVariants.{Texture}
use Rattle.acceptance.specs.declared.code.FaultCode.TheVariants.{M10, M12}
use Rattle.acceptance.specs.Causes as causes
use Rattle.acceptance.specs.Causes.{Reads, cause_in}
use Rattle.acceptance.specs.ImageFiles.{reading}
use Rattle.acceptance.specs.Textures.{most_texture_bytes, image_of_reading, image_of_held, samples_of, with_image, image_behind, images_from, images_behind, images_of, textures_from, asked_behind, textures_asked}
use Rattle.acceptance.specs.Answers.{Because, Gives, as_it_is}
use Rattle.acceptance.proofs.Fetched.{whole_held, long}
use Rattle.acceptance.proofs.Firsts.{ahead}

told_all : (held : Option Files) (P : Files → Type 0) → ((files : Files) → P files) → Told held P
told_all None P all = tt
told_all (Some files) P all = all files

-- ---- one file
pub whole_short : (result : Fetch) (limit : ℕ) (held : Option Files) (file old new : List ℕ) → result ≡ fetches.Whole → old ≡ [] → Fetches result limit held file old new → length new ≤ limit
whole_short result limit held file old new is empty f =
    let size : length f.bytes ≤ limit = subst (λ q. IsOfSize q limit (length f.bytes)) is f.size in
    let same : new ≡ f.bytes = f.added ∙ ap (λ o. o ++ f.bytes) empty in
    subst (λ b. length b ≤ limit) (sym same) size

pub whole_image : (result : Fetch) (held : Option Files) (name file old new : List ℕ) (r : Result Image Refusal) → result ≡ fetches.Whole → old ≡ [] → Fetches result most_texture_bytes held file old new
    → file ≡ name → Gives as_it_is r (image_of_held name (Some new)) → Told held (λ files. Gives as_it_is r (image_of_held name (held_as files name)))
whole_image result None name file old new r is empty f of gives = tt
whole_image result (Some files) name file old new r is empty f of gives =
    let here : held_as files name ≡ Some new = ap (held_as files) (sym of) ∙ whole_held result most_texture_bytes (held_as files file) old new f.bytes is empty f.added f.content in
    subst (λ h. Gives as_it_is r (image_of_held name h)) (sym here) gives

pub missing_image : (result : Fetch) (held : Option Files) (name file old new copy : List ℕ) → result ≡ fetches.Missing → Fetches result most_texture_bytes held file old new
    → file ≡ name → copy ≡ name → Told held (λ files. Because (Missing copy) (cause_in (image_of_held name (held_as files name))))
missing_image result None name file old new copy is f of copied = tt
missing_image result (Some files) name file old new copy is f of copied =
    let here : held_as files file ≡ None = subst (λ q. IsHeldAs q f.bytes (held_as files file)) is f.content in
    ap (λ h. cause_in (image_of_held name h)) (ap (held_as files) (sym of) ∙ here) ∙ ap (λ n. Some (causes.Missing n)) (sym copied)

too_long : (name bytes : List ℕ) → most_texture_bytes < length bytes → image_of_held name (Some bytes) ≡ Err (causes.At (Texture name) 1 M10)
too_long name bytes more = ap (λ b. cond b (Err (causes.At (Texture name) 1 M10)) (image_of_reading name (reading bytes))) (lt-ltb most_texture_bytes (length bytes) more)

pub long_image : (result : Fetch) (held : Option Files) (name file old new : List ℕ) (r : Refusal) → result ≡ fetches.TooLong → Fetches result most_texture_bytes held file old new
    → file ≡ name → Because r (Some (causes.At (Texture name) 1 M10)) → Told held (λ files. Because r (cause_in (image_of_held name (held_as files name))))
long_image result None name file old new r is f of because = tt
long_image result (Some files) name file old new r is f of because =
    let l = long most_texture_bytes result (held_as files file) f.bytes is f.size f.content in
    let here : held_as files name ≡ Some l.0 = ap (held_as files) (sym of) ∙ l.1 in
    subst (λ t. Because r (cause_in t)) (sym (ap (image_of_held name) here ∙ too_long name l.0 l.2)) because

-- ---- behind others
pub samples_behind : (ps : List Image) (p : Image) → samples_of (ps ++ p ∷ []) ≡ samples_of ps + image_bytes p
samples_behind [] p = omega arith
samples_behind (q ∷ ps) p = let rest = samples_behind ps p in omega (arith, rest)

-- with room for one more, or without
abbrev pub room : List Image → ℕ → ℕ → Bool
room ps held bytes = nat_lt (length ps) 64 && nat_le (held + bytes) 268435456

held_same : (ps : List Image) (p : Image) (held bytes : ℕ) (b : Bool) → held ≡ samples_of ps → bytes ≡ image_bytes p → room ps held bytes ≡ b
    → (nat_lt (length ps) 64 && nat_le (samples_of ps + image_bytes p) 268435456) ≡ b
held_same ps p held bytes b so_many more is = rw (sym so_many, sym more) is

pub no_room : (name : List ℕ) (ps : List Image) (p : Image) (held bytes : ℕ) → held ≡ samples_of ps → bytes ≡ image_bytes p → room ps held bytes ≡ false
    → with_image name ps (Ok p) ≡ Err (causes.At (Texture name) 1 M12)
no_room name ps p held bytes so_many more is = ap (λ b. cond b (Ok (ps ++ p ∷ [])) (Err (causes.At (Texture name) 1 M12))) (held_same ps p held bytes false so_many more is)

pub with_room : (name : List ℕ) (ps qs : List Image) (p : Image) (held bytes : ℕ) → held ≡ samples_of ps → bytes ≡ image_bytes p → room ps held bytes ≡ true → qs ≡ ps ++ p ∷ []
    → with_image name ps (Ok p) ≡ Ok qs
with_room name ps qs p held bytes so_many more is behind =
    ap (λ b. cond b (Ok (ps ++ p ∷ [])) (Err (causes.At (Texture name) 1 M12))) (held_same ps p held bytes true so_many more is) ∙ ap (λ l. Ok l) (sym behind)

pub still_few : (ps : List Image) (held bytes : ℕ) → room ps held bytes ≡ true → held + bytes ≤ 268435456
still_few ps held bytes is = leb-true (held + bytes) 268435456 (and_parts (nat_lt (length ps) 64) (nat_le (held + bytes) 268435456) is).1

because_with : (name : List ℕ) (ps : List Image) (read : Reads Image) (r : Refusal) → Because r (cause_in read) → Because r (cause_in (with_image name ps read))
because_with name ps (Err cause) r h = h
because_with name ps (Ok p) (Missing file) h = absurd (cc h)
because_with name ps (Ok p) (At file line code) h = absurd (cc h)
because_with name ps (Ok p) ReadFault h = tt
because_with name ps (Ok p) NoMemory h = tt

pub refused_behind : (held : Option Files) (name : List ℕ) (ps : List Image) (r : Refusal) → Told held (λ files. Because r (cause_in (image_of_held name (held_as files name))))
    → Told held (λ files. Because r (cause_in (image_behind files ps name)))
refused_behind None name ps r because = tt
refused_behind (Some files) name ps r because = because_with name ps (image_of_held name (held_as files name)) r because

pub next_refused : {A : Type 0} (held : Option Files) (name : List ℕ) (ps : List Image) (view : A → List Image) (result : Result A Refusal) (r : Refusal) → result ≡ Err r
    → Told held (λ files. Because r (cause_in (image_of_held name (held_as files name)))) → Told held (λ files. Gives view result (image_behind files ps name))
next_refused None name ps view result r is because = tt
next_refused (Some files) name ps view result r is because =
    subst (λ q. Gives view q (image_behind files ps name)) (sym is) (because_with name ps (image_of_held name (held_as files name)) r because)

pub put_read : {A : Type 0} (held : Option Files) (name : List ℕ) (ps qs : List Image) (p : Image) (result : Result A Refusal) → Told held (λ files. image_of_held name (held_as files name) ≡ Ok p)
    → Gives (λ _. qs) result (with_image name ps (Ok p)) → Told held (λ files. Gives (λ _. qs) result (image_behind files ps name))
put_read None name ps qs p result read gives = tt
put_read (Some files) name ps qs p result read gives = subst (λ q. Gives (λ _. qs) result (with_image name ps q)) (sym read) gives

-- ---- all of them
-- the textures of these names are fetched, those of the others are left
pub record ImagesSoFar (names done left : List (List ℕ)) (images : List Image) (held_first held : Option Files) (asked_first asked_now : Option (List (List ℕ)))
    (faults_first faults : ℕ) : Type 0 where
  pub same : held ≡ held_first
  pub gives : Told held_first (λ files. images_from files images left ≡ images_of files names)
  pub asked : AsksAll done asked_first asked_now
  pub asks : Told held_first (λ files. done ++ textures_from files images left ≡ textures_asked files names)
  pub later : faults_first ≤ faults

pub images-start : (names : List (List ℕ)) (held : Option Files) (asked : Option (List (List ℕ))) (faults : ℕ) → ImagesSoFar names [] names [] held held asked asked faults faults
images-start names held asked faults = record {
  same = refl;
  gives = told_all held (λ files. images_from files [] names ≡ images_of files names) (λ files. refl);
  asked = asks_all-none asked;
  asks = told_all held (λ files. [] ++ textures_from files [] names ≡ textures_asked files names) (λ files. refl);
  later = omega arith;
}

gives_next : (held_first held : Option Files) (names left : List (List ℕ)) (name : List ℕ) (old new : List Image) → held ≡ held_first → Told held_first (λ files. images_from files old (name ∷ left) ≡ images_of files names)
    → Told held (λ files. image_behind files old name ≡ Ok new) → Told held_first (λ files. images_from files new left ≡ images_of files names)
gives_next None held names left name old new same gives one = tt
gives_next (Some files) held names left name old new same gives one =
    let here : Told (Some files) (λ fs. image_behind fs old name ≡ Ok new) = subst (λ h. Told h (λ fs. image_behind fs old name ≡ Ok new)) same one in
    sym (ap (λ r. images_behind r (λ qs. images_from files qs left)) here) ∙ gives

asks_next : (held_first held : Option Files) (names done left : List (List ℕ)) (name : List ℕ) (old new : List Image) → held ≡ held_first
    → Told held_first (λ files. done ++ textures_from files old (name ∷ left) ≡ textures_asked files names)
    → Told held (λ files. image_behind files old name ≡ Ok new) → Told held_first (λ files. (done ++ name ∷ []) ++ textures_from files new left ≡ textures_asked files names)
asks_next None held names done left name old new same asks one = tt
asks_next (Some files) held names done left name old new same asks one =
    let here : Told (Some files) (λ fs. image_behind fs old name ≡ Ok new) = subst (λ h. Told h (λ fs. image_behind fs old name ≡ Ok new)) same one in
    append_assoc done (name ∷ []) (textures_from files new left) ∙ ap (λ r. done ++ name ∷ asked_behind r (λ qs. textures_from files qs left)) (sym here) ∙ asks

-- one texture more
pub images-next : (names done left : List (List ℕ)) (name : List ℕ) (old new : List Image) (held_first held held_new : Option Files) (asked_first asked asked_new : Option (List (List ℕ)))
    (faults_first faults faults_new : ℕ)
    → ImagesSoFar names done (name ∷ left) old held_first held asked_first asked faults_first faults → held_new ≡ held → Told held (λ files. image_behind files old name ≡ Ok new)
    → AsksAll (name ∷ []) asked asked_new → faults ≤ faults_new
    → ImagesSoFar names (done ++ name ∷ []) left new held_first held_new asked_first asked_new faults_first faults_new
images-next names done left name old new held_first held held_new asked_first asked asked_new faults_first faults faults_new s same one asks later = record {
  same = same ∙ s.same;
  gives = gives_next held_first held names left name old new s.same s.gives one;
  asked = asks_all-more done (name ∷ []) asked_first asked asked_new s.asked asks;
  asks = asks_next held_first held names done left name old new s.same s.asks one;
  later = omega (arith, s.later, later);
}

because_left : (files : Files) (left : List (List ℕ)) (read : Reads (List Image)) (r : Refusal) → Because r (cause_in read) → Because r (cause_in (images_behind read (λ qs. images_from files qs left)))
because_left files left (Err cause) r h = h
because_left files left (Ok ps) (Missing file) h = absurd (cc h)
because_left files left (Ok ps) (At file line code) h = absurd (cc h)
because_left files left (Ok ps) ReadFault h = tt
because_left files left (Ok ps) NoMemory h = tt

-- one is refused
pub images-refused : (names done left : List (List ℕ)) (name : List ℕ) (old : List Image) (held_first held : Option Files) (asked_first asked : Option (List (List ℕ)))
    (faults_first faults : ℕ) (r : Refusal)
    → ImagesSoFar names done (name ∷ left) old held_first held asked_first asked faults_first faults → Told held (λ files. Because r (cause_in (image_behind files old name)))
    → Told held_first (λ files. Because r (cause_in (images_of files names)))
images-refused names done left name old None held asked_first asked faults_first faults r s because = tt
images-refused names done left name old (Some files) held asked_first asked faults_first faults r s because =
    let here : Told (Some files) (λ fs. Because r (cause_in (image_behind fs old name))) = subst (λ h. Told h (λ fs. Because r (cause_in (image_behind fs old name)))) s.same because in
    subst (λ q. Because r (cause_in q)) s.gives (because_left files left (image_behind files old name) r here)

pub images-asked : (names done left : List (List ℕ)) (name : List ℕ) (old : List Image) (held_first held : Option Files) (asked_first asked asked_new : Option (List (List ℕ)))
    (faults_first faults : ℕ)
    → ImagesSoFar names done (name ∷ left) old held_first held asked_first asked faults_first faults → AsksFront (name ∷ []) asked asked_new
    → Told held_first (λ files. AsksFront (textures_asked files names) asked_first asked_new)
images-asked names done left name old None held asked_first asked asked_new faults_first faults s asks = tt
images-asked names done left name old (Some files) held asked_first asked asked_new faults_first faults s asks =
    let more : List (List ℕ) = asked_behind (image_behind files old name) (λ qs. textures_from files qs left) in
    subst (λ ns. AsksFront ns asked_first asked_new) s.asks
    (asks_front-behind done (name ∷ more) asked_first asked asked_new s.asked (asks_front-before (name ∷ []) more asked asked_new asks))

-- none is left
pub images-given : (names done : List (List ℕ)) (images : List Image) (held_first held : Option Files) (asked_first asked : Option (List (List ℕ))) (faults_first faults : ℕ)
    → ImagesSoFar names done [] images held_first held asked_first asked faults_first faults → Told held_first (λ files. images_of files names ≡ Ok images)
images-given names done images None held asked_first asked faults_first faults s = tt
images-given names done images (Some files) held asked_first asked faults_first faults s = sym s.gives

pub images-all_asked : (names done : List (List ℕ)) (images : List Image) (held_first held : Option Files) (asked_first asked : Option (List (List ℕ))) (faults_first faults : ℕ)
    → ImagesSoFar names done [] images held_first held asked_first asked faults_first faults → Told held_first (λ files. AsksFront (textures_asked files names) asked_first asked)
images-all_asked names done images None held asked_first asked faults_first faults s = tt
images-all_asked names done images (Some files) held asked_first asked faults_first faults s =
    subst (λ ns. AsksFront ns asked_first asked) s.asks (asks_front-before done [] asked_first asked (asks_front-all done asked_first asked s.asked))

-- ---- the loop over the names
-- the name at hand is the first that is left
pub images-ahead : {A : Type 0} (f : A → List ℕ) (xs : List A) (i : ℕ) (x : A) (images : List Image) (held_first held : Option Files) (asked_first asked : Option (List (List ℕ)))
    (faults_first faults : ℕ) → i < length xs → x ≡ get_or xs i x
    → ImagesSoFar (map f xs) (map f (take i xs)) (map f (drop i xs)) images held_first held asked_first asked faults_first faults
    → ImagesSoFar (map f xs) (map f (take i xs)) (f x ∷ map f (drop (i + 1) xs)) images held_first held asked_first asked faults_first faults
images-ahead f xs i x images held_first held asked_first asked faults_first faults low is s =
    subst (λ l. ImagesSoFar (map f xs) (map f (take i xs)) l images held_first held asked_first asked faults_first faults) (ap (map f) (ahead xs i x low is)) s

pub images-behind : {A : Type 0} (f : A → List ℕ) (xs : List A) (i : ℕ) (x : A) (images : List Image) (held_first held : Option Files) (asked_first asked : Option (List (List ℕ)))
    (faults_first faults : ℕ) → i < length xs → x ≡ get_or xs i x
    → ImagesSoFar (map f xs) (map f (take i xs) ++ f x ∷ []) (map f (drop (i + 1) xs)) images held_first held asked_first asked faults_first faults
    → ImagesSoFar (map f xs) (map f (take (i + 1) xs)) (map f (drop (i + 1) xs)) images held_first held asked_first asked faults_first faults
images-behind f xs i x images held_first held asked_first asked faults_first faults low is s =
    let items : map f (take (i + 1) xs) ≡ map f (take i xs) ++ f x ∷ [] =
    ap (map f) (take_more xs i x low ∙ ap (λ y. take i xs ++ y ∷ []) (sym is)) ∙ map-append f (take i xs) (x ∷ []) in
    subst (λ l. ImagesSoFar (map f xs) l (map f (drop (i + 1) xs)) images held_first held asked_first asked faults_first faults) (sym items) s

pub images-end : {A : Type 0} (f : A → List ℕ) (xs : List A) (i : ℕ) (images : List Image) (held_first held : Option Files) (asked_first asked : Option (List (List ℕ)))
    (faults_first faults : ℕ) → length xs ≤ i
    → ImagesSoFar (map f xs) (map f (take i xs)) (map f (drop i xs)) images held_first held asked_first asked faults_first faults
    → ImagesSoFar (map f xs) (map f (take i xs)) [] images held_first held asked_first asked faults_first faults
images-end f xs i images held_first held asked_first asked faults_first faults end s =
    subst (λ l. ImagesSoFar (map f xs) (map f (take i xs)) l images held_first held asked_first asked faults_first faults) (ap (map f) (drop_all i xs end)) s
