-- Names that are listed one after the other, and the entries of their look-ups.
use Rattle.std.proofs.Common.{◌≡◌, ℕ, ◌+◌, ◌<◌, ◌≤◌, Bool, true, false, List, [], ◌∷◌, ◌++◌, length, filter, map, take, drop, get_or, Option, Some, None, cond, refl, sym, ap, ◌∙◌, subst, append_assoc}
use Rattle.std.specs.Prelude.{slice_get, Result, Ok, Err, OnOk}
use Rattle.std.specs.Option.{option_map}
use Rattle.std.proofs.lemmas.List.{append-nil, map-append, take_more, take_all, drop_all}
use Rattle.fixed_math.specs.Names.{last_place}
use Rattle.acceptance.specs.Shaders.{distinct}
use Rattle.acceptance.specs.Places.{place_or}
use Rattle.acceptance.specs.Textures.{some_name, is_some_name, joined, texture_names, entry_in, entries_in}
use Rattle.acceptance.specs.Reading.{is_among, with_once}
use Rattle.acceptance.specs.Listed.{listed_with, with_some, IsAt, AreAt}
use Rattle.acceptance.proofs.Names.{left, left_none, left_in, left_out}
use Rattle.acceptance.proofs.Places.{place_stays, place_behind, placed, unplaced, among_placed, more_names}
use Rattle.acceptance.proofs.Firsts.{ahead}
use Rattle.acceptance.proofs.SetSame.{Once, once_distinct, placed_once}

pub on_ok : {T E P : Type 0} (r : Result T E) → P → OnOk r P
on_ok (Ok x) p = p
on_ok (Err e) p = tt

-- ---- names
listed_more : (done : List (List ℕ)) (name : List ℕ) (names : List (List ℕ)) (b : Bool) → is_among name done ≡ b
    → cond b done (done ++ name ∷ []) ++ left (cond b done (done ++ name ∷ [])) (distinct names) ≡ done ++ left done (distinct (name ∷ names))
listed_more done name names true e = ap (λ ls. done ++ ls) (sym (left_in done name names e))
listed_more done name names false e =
    append_assoc done (name ∷ []) (left (done ++ name ∷ []) (distinct names)) ∙ ap (λ ls. done ++ ls) (sym (left_out done name names e))

-- one name more
pub listed_step : (done : List (List ℕ)) (name : List ℕ) (rest : List (List ℕ)) → listed_with (with_some done (some_name name)) rest ≡ listed_with done (name ∷ rest)
listed_step done [] rest = refl
listed_step done (c ∷ cs) rest = listed_more done (c ∷ cs) (filter is_some_name rest) (is_among (c ∷ cs) done) refl

pub listed_none : (done : List (List ℕ)) → listed_with done [] ≡ done
listed_none done = append-nil done

-- some names, and then others
pub listed_both : (xs ys done : List (List ℕ)) → listed_with (listed_with done xs) ys ≡ listed_with done (xs ++ ys)
listed_both [] ys done = ap (λ d. listed_with d ys) (listed_none done)
listed_both (x ∷ xs) ys done =
    ap (λ d. listed_with d ys) (sym (listed_step done x xs)) ∙ listed_both xs ys (with_some done (some_name x)) ∙ listed_step done x (xs ++ ys)

-- the names of all look-ups, where none was listed
pub all_listed : (names : List (List (List ℕ))) → listed_with [] (joined names) ≡ texture_names names
all_listed names = left_none (distinct (filter is_some_name (joined names)))

-- a name that is listed already, and its place
pub listed_there : (name : List ℕ) (names : List (List ℕ)) (p : ℕ) {o : Option ℕ} → o ≡ last_place name names → o ≡ Some p → names ≡ with_once names name
listed_there name names p looked found = sym (ap (λ b. cond b names (names ++ name ∷ [])) (among_placed name names p (sym looked ∙ found)))

pub listed_place : (name : List ℕ) (names : List (List ℕ)) (p : ℕ) {o : Option ℕ} → o ≡ last_place name names → o ≡ Some p → slice_get names p ≡ Some name
listed_place name names p looked found = placed name names p (sym looked ∙ found)

-- and one that is listed behind the others
pub listed_behind : (name : List ℕ) (names new : List (List ℕ)) {o : Option ℕ} → o ≡ last_place name names → o ≡ None → new ≡ names ++ name ∷ [] → new ≡ with_once names name
listed_behind name names new looked found is =
    is ∙ sym (ap (λ b. cond b names (names ++ name ∷ [])) (unplaced name names (sym looked ∙ found)))

pub behind_place : (name : List ℕ) (names new : List (List ℕ)) (place : ℕ) → place ≡ length names → new ≡ names ++ name ∷ [] → slice_get new place ≡ Some name
behind_place name names new place at is = ap (slice_get new) at ∙ ap (λ ns. slice_get ns (length names)) is ∙ place_behind names name

pub pushed_both : {A : Type 0} (f : A → List ℕ) (xs ys : List A) (x : A) (old new : List (List ℕ)) → old ≡ map f xs → new ≡ old ++ f x ∷ [] → ys ≡ xs ++ x ∷ [] → new ≡ map f ys
pushed_both f xs ys x old new table more items =
    more ∙ ap (λ t. t ++ f x ∷ []) table ∙ sym (map-append f xs (x ∷ [])) ∙ ap (map f) (sym items)

-- ---- entries
-- an entry stays with more names behind
at_stays : (listed more : List (List ℕ)) (name : Option (List ℕ)) (entry : Option ℕ) → IsAt listed name entry → IsAt (listed ++ more) name entry
at_stays listed more None None h = refl
at_stays listed more (Some n) None h = absurd (cc h)
at_stays listed more None (Some k) h = absurd (cc h)
at_stays listed more (Some n) (Some k) h =
    let here : slice_get listed k ≡ Some n = cc h in
    ap (λ o. Some o) (place_stays listed more k n here)

abbrev pub seen : List (List ℕ) → Option ℕ → Option (Option (List ℕ))
seen listed entry = option_map (slice_get listed) entry

abbrev pub wanted : List ℕ → Option (Option (List ℕ))
wanted name = option_map (λ m. Some m) (some_name name)

pub are_at_stay : (listed more names : List (List ℕ)) (entries : List (Option ℕ)) → AreAt listed names entries → AreAt (listed ++ more) names entries
are_at_stay listed more [] [] h = refl
are_at_stay listed more [] (e ∷ es) h = absurd (cc h)
are_at_stay listed more (n ∷ ns) [] h = absurd (cc h)
are_at_stay listed more (n ∷ ns) (e ∷ es) h =
    let first : seen listed e ≡ wanted n = cc h in
    let rest : map (seen listed) es ≡ map wanted ns = cc h in
    ap (λ o. o ∷ map (seen (listed ++ more)) es) (at_stays listed more (some_name n) e first) ∙ ap (λ os. wanted n ∷ os) (are_at_stay listed more ns es rest)

-- what is listed grows behind
with_some_grows : (done : List (List ℕ)) (name : Option (List ℕ)) → (more : List (List ℕ)) × (with_some done name ≡ done ++ more)
with_some_grows done None = ([], sym (append-nil done))
with_some_grows done (Some name) = more_names done name

-- ---- the loop over the look-ups of a tree
pub found_next : {A : Type 0} (f : A → List ℕ) (xs : List A) (i : ℕ) (x : A) (old new total : List (List ℕ)) → i < length xs → x ≡ get_or xs i x → new ≡ with_some old (some_name (f x))
    → listed_with old (map f (drop i xs)) ≡ total → listed_with new (map f (drop (i + 1) xs)) ≡ total
found_next f xs i x old new total low is grown so_far =
    ap (λ d. listed_with d (map f (drop (i + 1) xs))) grown ∙ listed_step old (f x) (map f (drop (i + 1) xs))
    ∙ ap (λ ys. listed_with old (map f ys)) (sym (ahead xs i x low is)) ∙ so_far

pub entries_next : {A : Type 0} (f : A → List ℕ) (xs : List A) (i : ℕ) (x : A) (old new : List (List ℕ)) (before after : List (Option ℕ)) (entry : Option ℕ) → i < length xs → x ≡ get_or xs i x
    → new ≡ with_some old (some_name (f x)) → IsAt new (some_name (f x)) entry → after ≡ before ++ entry ∷ []
    → AreAt old (map f (take i xs)) before → AreAt new (map f (take (i + 1) xs)) after
entries_next f xs i x old new before after entry low is grown at added so_far =
    let m = with_some_grows old (some_name (f x)) in
    let stay : AreAt new (map f (take i xs)) before =
    subst (λ l. AreAt l (map f (take i xs)) before) (sym (grown ∙ m.1)) (are_at_stay old m.0 (map f (take i xs)) before so_far) in
    let items : map f (take (i + 1) xs) ≡ map f (take i xs) ++ f x ∷ [] =
    ap (map f) (take_more xs i x low ∙ ap (λ y. take i xs ++ y ∷ []) (sym is)) ∙ map-append f (take i xs) (x ∷ []) in
    ap (map (seen new)) added ∙ map-append (seen new) before (entry ∷ []) ∙ ap (λ os. os ++ seen new entry ∷ []) stay
    ∙ ap (λ o. map wanted (map f (take i xs)) ++ o ∷ []) at ∙ sym (map-append wanted (map f (take i xs)) (f x ∷ [])) ∙ ap (map wanted) (sym items)

pub found_done : {A : Type 0} (f : A → List ℕ) (xs : List A) (i : ℕ) (listed total : List (List ℕ)) → length xs ≤ i → listed_with listed (map f (drop i xs)) ≡ total → listed ≡ total
found_done f xs i listed total end so_far = sym (listed_none listed) ∙ ap (λ ys. listed_with listed (map f ys)) (sym (drop_all i xs end)) ∙ so_far

-- ---- the loop over uses
abbrev pub AllAt : List (List ℕ) → List (List (List ℕ)) → List (List (Option ℕ)) → Type 0
AllAt listed names entries = map (map (seen listed)) entries ≡ map (map wanted) names

all_at_stay : (listed more : List (List ℕ)) (names : List (List (List ℕ))) (entries : List (List (Option ℕ))) → AllAt listed names entries → AllAt (listed ++ more) names entries
all_at_stay listed more [] [] h = refl
all_at_stay listed more [] (es ∷ ess) h = absurd (cc h)
all_at_stay listed more (ns ∷ nss) [] h = absurd (cc h)
all_at_stay listed more (ns ∷ nss) (es ∷ ess) h =
    let first : AreAt listed ns es = cc h in
    let rest : AllAt listed nss ess = cc h in
    ap (λ l. l ∷ map (map (seen (listed ++ more))) ess) (are_at_stay listed more ns es first) ∙ ap (λ l. map wanted ns ∷ l) (all_at_stay listed more nss ess rest)

pub names_next : (names : List (List (List ℕ))) (i : ℕ) (here old new : _) (total : List (List ℕ)) → i < length names → here ≡ get_or names i here → new ≡ listed_with old here
    → listed_with old (joined (drop i names)) ≡ total → listed_with new (joined (drop (i + 1) names)) ≡ total
names_next names i here old new total low is grown so_far =
    ap (λ d. listed_with d (joined (drop (i + 1) names))) grown ∙ listed_both here (joined (drop (i + 1) names)) old
    ∙ ap (λ l. listed_with old (joined l)) (sym (ahead names i here low is)) ∙ so_far

pub all_next : (names : List (List (List ℕ))) (i : ℕ) (here old new : List (List ℕ)) (before after : List (List (Option ℕ))) (entries : List (Option ℕ)) → i < length names → here ≡ get_or names i here
    → new ≡ listed_with old here → AreAt new here entries → after ≡ before ++ entries ∷ [] → AllAt old (take i names) before → AllAt new (take (i + 1) names) after
all_next names i here old new before after entries low is grown at added so_far =
    let stay : AllAt new (take i names) before =
    subst (λ l. AllAt l (take i names) before) (sym grown) (all_at_stay old (left old (distinct (filter is_some_name here))) (take i names) before so_far) in
    let items : take (i + 1) names ≡ take i names ++ here ∷ [] = take_more names i here low ∙ ap (λ y. take i names ++ y ∷ []) (sym is) in
    ap (map (map (seen new))) added ∙ map-append (map (seen new)) before (entries ∷ []) ∙ ap (λ l. l ++ map (seen new) entries ∷ []) stay
    ∙ ap (λ os. map (map wanted) (take i names) ++ os ∷ []) at ∙ sym (map-append (map wanted) (take i names) (here ∷ [])) ∙ ap (map (map wanted)) (sym items)

pub names_done : (names : List (List (List ℕ))) (i : ℕ) (listed total : List (List ℕ)) → length names ≤ i → listed_with listed (joined (drop i names)) ≡ total → listed ≡ total
names_done names i listed total end so_far = sym (listed_none listed) ∙ ap (λ l. listed_with listed (joined l)) (sym (drop_all i names end)) ∙ so_far

-- ---- entries by names that stand once each
entry_same : (names : List (List ℕ)) → Once names → (name : List ℕ) (entry : Option ℕ) → IsAt names (some_name name) entry → entry ≡ entry_in names name
entry_same names once [] None h = refl
entry_same names once [] (Some k) h = absurd (cc h)
entry_same names once (c ∷ cs) None h = absurd (cc h)
entry_same names once (c ∷ cs) (Some k) h =
    let here : slice_get names k ≡ Some (c ∷ cs) = cc h in
    ap (λ o. Some (place_or o)) (sym (placed_once names k (c ∷ cs) once here))

row_same : (names : List (List ℕ)) → Once names → (row : List (List ℕ)) (entries : List (Option ℕ)) → AreAt names row entries → entries ≡ map (entry_in names) row
row_same names once [] [] h = refl
row_same names once [] (e ∷ es) h = absurd (cc h)
row_same names once (n ∷ ns) [] h = absurd (cc h)
row_same names once (n ∷ ns) (e ∷ es) h =
    let first : seen names e ≡ wanted n = cc h in
    let rest : map (seen names) es ≡ map wanted ns = cc h in
    ap (λ o. o ∷ es) (entry_same names once n e first) ∙ ap (λ os. entry_in names n ∷ os) (row_same names once ns es rest)

all_same : (names : List (List ℕ)) → Once names → (rows : List (List (List ℕ))) (entries : List (List (Option ℕ))) → AllAt names rows entries → entries ≡ entries_in names rows
all_same names once [] [] h = refl
all_same names once [] (es ∷ ess) h = absurd (cc h)
all_same names once (ns ∷ nss) [] h = absurd (cc h)
all_same names once (ns ∷ nss) (es ∷ ess) h =
    let first : AreAt names ns es = cc h in
    let rest : AllAt names nss ess = cc h in
    ap (λ l. l ∷ ess) (row_same names once ns es first) ∙ ap (λ l. map (entry_in names) ns ∷ l) (all_same names once nss ess rest)

pub all_done : (names : List (List (List ℕ))) (i : ℕ) (listed : List (List ℕ)) (entries : List (List (Option ℕ))) → length names ≤ i → listed ≡ texture_names names → AllAt listed (take i names) entries
    → entries ≡ entries_in (texture_names names) names
all_done names i listed entries end is so_far =
    let all : AllAt (texture_names names) names entries = subst (λ l. AllAt (texture_names names) l entries) (take_all i names end) (subst (λ l. AllAt l (take i names) entries) is so_far) in
    all_same (texture_names names) (once_distinct (filter is_some_name (joined names))) names entries all
