-- Parts, fetched one after another and joined.
use Rattle.std.proofs.Common.{◌≡◌, refl, sym, ap, ◌∙◌, subst, ℕ, zero, suc, ◌+◌, ◌-◌, ◌<◌, ◌≤◌, ⊎_elim, arith, cond, List, [], ◌∷◌, ◌++◌, length, append_assoc, length-append, Option, Some, None, Result, Ok, Err, Vec}
use Rattle.std.specs.Prelude.{IsErrAnd}
use Rattle.std.specs.declared.alloc.Global.{Global}
use Rattle.std.proofs.lemmas.Bool.{lt-ltb, le-ltb, cases_lt}
use Rattle.std.proofs.lemmas.List.{append-nil}
use Rattle.outside.specs.Causes.{Told}
use Rattle.outside.specs.Library.{Files, held_as, Fetches, IsOfSize, IsHeldAs}
use Rattle.outside.specs.Asked.{AsksAll, AsksFront}
use Rattle.outside.specs.declared.library.Fetch.{Fetch}
use Rattle.outside.specs.declared.library.Fetch.TheVariants.{Whole, Missing, TooLong}
use Rattle.outside.proofs.Asking.{asks_all-more, asks_front-all, asks_front-before, asks_front-behind}
use Rattle.parts.specs.Formats.{Part}
use Rattle.parts.specs.Joining.{IsJoined, IsFault}
use Rattle.parts.specs.declared.fault.JoinFault.{JoinFault}
use Rattle.part_files.specs.declared.cause.JoinCause.{JoinCause}
use Rattle.part_files.specs.declared.cause.JoinCause.TheVariants as causes
use Rattle.part_files.specs.declared.cause.JoinCode.TheVariants.{M10}
use Rattle.part_files.specs.declared.stop.JoinStop.{JoinStop}
use Rattle.part_files.specs.declared.stop.JoinStop.TheVariants as stops
use Rattle.part_files.specs.Parts.{part_name, most_part_bytes, total_length, part_within, behind, with_part, first_parts, asked_behind, asked_parts, cause_of_fault, MakePicture, MakeNone}
use Rattle.part_files.specs.Joins.{GivesPart, GivesParts, GivesPicture, IsStopOf}

-- ---- one part
whole_held : (result : Fetch) (held : Option (List ℕ)) (old new bytes : List ℕ) → result ≡ Whole → old ≡ [] → new ≡ old ++ bytes → IsHeldAs result bytes held → held ≡ Some new
whole_held result held old new bytes is empty added content =
    let here : held ≡ Some bytes = subst (λ r. IsHeldAs r bytes held) is content in
    let same : new ≡ bytes = added ∙ ap (λ o. o ++ bytes) empty in
    here ∙ ap (λ b. Some b) (sym same)

long : (limit : ℕ) (result : Fetch) (held : Option (List ℕ)) (bytes : List ℕ) → result ≡ TooLong → IsOfSize result limit (length bytes) → IsHeldAs result bytes held
    → (whole : List ℕ) × (held ≡ Some whole) × (limit < length whole)
long limit result held bytes is sized content =
    let rest : IsHeldAs TooLong bytes held = subst (λ q. IsHeldAs q bytes held) is content in
    let size : length bytes ≡ limit + 1 = subst (λ q. IsOfSize q limit (length bytes)) is sized in
    (bytes ++ rest.0, rest.1, omega (arith, size, length-append bytes rest.0))

pub whole_part : (result : Fetch) (held : Option Files) (room part : ℕ) (file old new : List ℕ) → result ≡ Whole → old ≡ [] → Fetches result room held file old new
    → Told held (λ files. part_within room part (held_as files file) ≡ Ok new)
whole_part result None room part file old new is empty f = tt
whole_part result (Some files) room part file old new is empty f =
    let size : length f.bytes ≤ room = subst (λ q. IsOfSize q room (length f.bytes)) is f.size in
    let same : new ≡ f.bytes = f.added ∙ ap (λ o. o ++ f.bytes) empty in
    let few : length new ≤ room = subst (λ b. length b ≤ room) (sym same) size in
    ap (part_within room part) (whole_held result (held_as files file) old new f.bytes is empty f.added f.content)
    ∙ ap (λ b. cond b (Err (causes.At (Some part) M10)) (Ok new)) (le-ltb room (length new) few)

pub whole_size : (result : Fetch) (held : Option Files) (room : ℕ) (file old new : List ℕ) → result ≡ Whole → old ≡ [] → Fetches result room held file old new → length new ≤ room
whole_size result held room file old new is empty f =
    let size : length f.bytes ≤ room = subst (λ q. IsOfSize q room (length f.bytes)) is f.size in
    subst (λ b. length b ≤ room) (sym (f.added ∙ ap (λ o. o ++ f.bytes) empty)) size

pub missing_part : (result : Fetch) (held : Option Files) (room part : ℕ) (file old new : List ℕ) → result ≡ Missing → Fetches result room held file old new
    → Told held (λ files. part_within room part (held_as files file) ≡ Err (causes.Missing part))
missing_part result None room part file old new is f = tt
missing_part result (Some files) room part file old new is f =
    let none : held_as files file ≡ None = subst (λ q. IsHeldAs q f.bytes (held_as files file)) is f.content in
    ap (part_within room part) none

pub long_part : (result : Fetch) (held : Option Files) (room part : ℕ) (file old new : List ℕ) → result ≡ TooLong → Fetches result room held file old new
    → Told held (λ files. part_within room part (held_as files file) ≡ Err (causes.At (Some part) M10))
long_part result None room part file old new is f = tt
long_part result (Some files) room part file old new is f =
    let l = long room result (held_as files file) f.bytes is f.size f.content in
    ap (part_within room part) l.1 ∙ ap (λ b. cond b (Err (causes.At (Some part) M10)) (Ok l.0)) (lt-ltb room (length l.0) l.2)

-- ---- part after part
total-more : (texts : List (List ℕ)) (text : List ℕ) → total_length (texts ++ text ∷ []) ≡ total_length texts + length text
total-more [] text = let e : length text + 0 ≡ 0 + length text = omega arith in e
total-more (t ∷ texts) text =
    let e = total-more texts text in
    let l : total_length (t ∷ (texts ++ text ∷ [])) ≡ length t + total_length (texts ++ text ∷ []) = refl in
    let r : total_length (t ∷ texts) ≡ length t + total_length texts = refl in
    omega (arith, e, l, r)

next_parts : (files : Files) (name : List ℕ) (n : ℕ) → first_parts files name (n + 1) ≡ with_part n (held_as files (part_name name n)) (first_parts files name n)
next_parts files name n = let e : n + 1 ≡ suc n = omega arith in ap (first_parts files name) e

next_asked : (files : Files) (name : List ℕ) (n : ℕ) → asked_parts files name (n + 1) ≡ asked_behind (part_name name n) (first_parts files name n) (asked_parts files name n)
next_asked files name n = let e : n + 1 ≡ suc n = omega arith in ap (asked_parts files name) e

-- the texts so far, and the next part within the room that they leave
next_text : (files : Files) (name : List ℕ) (n room : ℕ) (texts : List (List ℕ)) → first_parts files name n ≡ Ok texts → room + total_length texts ≡ most_part_bytes
    → first_parts files name (n + 1) ≡ behind texts (part_within room n (held_as files (part_name name n)))
next_text files name n room texts first all =
    let left : most_part_bytes - total_length texts ≡ room = omega (arith, all) in
    next_parts files name n ∙ ap (λ r. with_part n (held_as files (part_name name n)) r) first
    ∙ ap (λ k. behind texts (part_within k n (held_as files (part_name name n)))) left

pub more_texts : (held : Option Files) (name : List ℕ) (n room : ℕ) (texts after : List (List ℕ)) (text : List ℕ) → Told held (λ files. first_parts files name n ≡ Ok texts)
    → room + total_length texts ≡ most_part_bytes → Told held (λ files. part_within room n (held_as files (part_name name n)) ≡ Ok text) → after ≡ texts ++ text ∷ []
    → Told held (λ files. first_parts files name (n + 1) ≡ Ok after)
more_texts None name n room texts after text first all read is = tt
more_texts (Some files) name n room texts after text first all read is =
    next_text files name n room texts first all ∙ ap (behind texts) read ∙ ap (λ ts. Ok ts) (sym is)

pub more_room : (room left : ℕ) (texts after : List (List ℕ)) (text : List ℕ) → room + total_length texts ≡ most_part_bytes → length text ≤ room → left ≡ room - length text → after ≡ texts ++ text ∷ []
    → left + total_length after ≡ most_part_bytes
more_room room left texts after text all few is same =
    let more : total_length after ≡ total_length texts + length text = ap total_length same ∙ total-more texts text in
    omega (arith, all, few, is, more)

-- the first part that isn't read stays the fault
stays : (files : Files) (name : List ℕ) (n m : ℕ) (cause : JoinCause) → n ≤ m → first_parts files name n ≡ Err cause → first_parts files name m ≡ Err cause
stays files name n zero cause low first = let e : n ≡ 0 = omega (arith, low) in subst (λ k. first_parts files name k ≡ Err cause) e first
stays files name n (suc m) cause low first =
    ⊎_elim
    (λ (s : m < n). (let e : n ≡ suc m = omega (arith, low, s) in subst (λ k. first_parts files name k ≡ Err cause) e first))
    (λ (s : n ≤ m). ap (λ r. with_part m (held_as files (part_name name m)) r) (stays files name n m cause s first))
    (cases_lt m n)

pub unread_part : (held : Option Files) (name : List ℕ) (n count room : ℕ) (texts : List (List ℕ)) (cause : JoinCause) → n < count → Told held (λ files. first_parts files name n ≡ Ok texts)
    → room + total_length texts ≡ most_part_bytes → Told held (λ files. part_within room n (held_as files (part_name name n)) ≡ Err cause)
    → Told held (λ files. first_parts files name count ≡ Err cause)
unread_part None name n count room texts cause low first all read = tt
unread_part (Some files) name n count room texts cause low first all read =
    stays files name (n + 1) count cause (omega (arith, low)) (next_text files name n room texts first all ∙ ap (behind texts) read)

-- where a part isn't read, the parts aren't
pub unread_parts : (held held_then : Option Files) (name : List ℕ) (n count room : ℕ) (texts : List (List ℕ)) (r : Result (Vec (List ℕ) Global) JoinStop) (stop : JoinStop)
    → IsErrAnd r (λ e. e ≡ stop) → held_then ≡ held → n < count → Told held (λ files. first_parts files name n ≡ Ok texts) → room + total_length texts ≡ most_part_bytes
    → Told held_then (λ files. GivesPart n room (Err stop) (held_as files (part_name name n))) → Told held (λ files. GivesParts files name count r)
unread_parts None held_then name n count room texts r stop is at low first all gives = tt
unread_parts (Some files) held_then name n count room texts (Ok all_read) stop is at low first all gives = absurd is
unread_parts (Some files) held_then name n count room texts (Err e) stop is at low first all gives =
    subst (λ q. GivesParts files name count (Err q)) (sym is) (by stop (subst (λ h. Told h (λ fs. GivesPart n room (Err stop) (held_as fs (part_name name n)))) at gives))
  where
    by : (stop : JoinStop) → GivesPart n room (Err stop) (held_as files (part_name name n)) → GivesParts files name count (Err stop)
    by (stops.Cause cause) read = unread_part (Some files) name n count room texts cause low first all read
    by stops.ReadFault read = tt
    by stops.NoMemory read = tt

-- the names of some first parts stand before those of all
some_asked : (file : List ℕ) (r : Result (List (List ℕ)) JoinCause) (names : List (List ℕ)) → (rest : List (List ℕ)) × (asked_behind file r names ≡ names ++ rest)
some_asked file (Ok texts) names = (file ∷ [], refl)
some_asked file (Err cause) names = ([], sym (append-nil names))

asked_front : (files : Files) (name : List ℕ) (n m : ℕ) → n ≤ m → (rest : List (List ℕ)) × (asked_parts files name m ≡ asked_parts files name n ++ rest)
asked_front files name n zero low =
    let e : n ≡ 0 = omega (arith, low) in ([], sym (ap (λ k. asked_parts files name k ++ []) e ∙ append-nil (asked_parts files name 0)))
asked_front files name n (suc m) low =
    ⊎_elim
    (λ (s : m < n). (let e : n ≡ suc m = omega (arith, low, s) in at_end e))
    (λ (s : n ≤ m). further (asked_front files name n m s) (some_asked (part_name name m) (first_parts files name m) (asked_parts files name m)))
    (cases_lt m n)
  where
    at_end : n ≡ suc m → (rest : List (List ℕ)) × (asked_parts files name (suc m) ≡ asked_parts files name n ++ rest)
    at_end e = ([], sym (ap (λ k. asked_parts files name k ++ []) e ∙ append-nil (asked_parts files name (suc m))))

    further : ((rest : List (List ℕ)) × (asked_parts files name m ≡ asked_parts files name n ++ rest))
        → ((rest : List (List ℕ)) × (asked_behind (part_name name m) (first_parts files name m) (asked_parts files name m) ≡ asked_parts files name m ++ rest)) → (rest : List (List ℕ)) × (asked_parts files name (suc m) ≡ asked_parts files name n ++ rest)
    further a b = (a.0 ++ b.0, b.1 ∙ ap (λ names. names ++ b.0) a.1 ∙ append_assoc (asked_parts files name n) a.0 b.0)

next_name : (files : Files) (name : List ℕ) (n : ℕ) (texts : List (List ℕ)) → first_parts files name n ≡ Ok texts → asked_parts files name (n + 1) ≡ asked_parts files name n ++ part_name name n ∷ []
next_name files name n texts first = next_asked files name n ∙ ap (λ r. asked_behind (part_name name n) r (asked_parts files name n)) first

-- one more name asked for
pub asked_more : (held : Option Files) (name : List ℕ) (n : ℕ) (texts : List (List ℕ)) (o p q : Option (List (List ℕ))) → Told held (λ files. first_parts files name n ≡ Ok texts)
    → Told held (λ files. AsksAll (asked_parts files name n) o p) → AsksAll (part_name name n ∷ []) p q → Told held (λ files. AsksAll (asked_parts files name (n + 1)) o q)
asked_more None name n texts o p q first before one = tt
asked_more (Some files) name n texts o p q first before one =
    subst (λ names. AsksAll names o q) (sym (next_name files name n texts first)) (asks_all-more (asked_parts files name n) (part_name name n ∷ []) o p q before one)

-- or maybe not
pub asked_last : (held : Option Files) (name : List ℕ) (n count : ℕ) (texts : List (List ℕ)) (o p q : Option (List (List ℕ))) → n < count → Told held (λ files. first_parts files name n ≡ Ok texts)
    → Told held (λ files. AsksAll (asked_parts files name n) o p) → AsksFront (part_name name n ∷ []) p q → Told held (λ files. AsksFront (asked_parts files name count) o q)
asked_last None name n count texts o p q low first before one = tt
asked_last (Some files) name n count texts o p q low first before one =
    let f = asked_front files name (n + 1) count (omega (arith, low)) in
    let here : AsksFront (asked_parts files name (n + 1)) o q =
    subst (λ names. AsksFront names o q) (sym (next_name files name n texts first)) (asks_front-behind (asked_parts files name n) (part_name name n ∷ []) o p q before one) in
    subst (λ names. AsksFront names o q) (sym f.1) (asks_front-before (asked_parts files name (n + 1)) f.0 o q here)

-- those of some first parts are some of all
pub asked_some : (held : Option Files) (name : List ℕ) (n count : ℕ) (o p : Option (List (List ℕ))) → n ≤ count → Told held (λ files. AsksAll (asked_parts files name n) o p)
    → Told held (λ files. AsksFront (asked_parts files name count) o p)
asked_some None name n count o p low all = tt
asked_some (Some files) name n count o p low all =
    let f = asked_front files name n count low in
    subst (λ names. AsksFront names o p) (sym f.1) (asks_front-before (asked_parts files name n) f.0 o p (asks_front-all (asked_parts files name n) o p all))

pub none_asked : (held : Option Files) (name : List ℕ) (o : Option (List (List ℕ))) → AsksAll [] o o → Told held (λ files. AsksAll (asked_parts files name 0) o o)
none_asked None name o all = tt
none_asked (Some files) name o all = all

pub none_read : (held : Option Files) (name : List ℕ) (texts : List (List ℕ)) → texts ≡ [] → Told held (λ files. first_parts files name 0 ≡ Ok texts)
none_read None name texts is = tt
none_read (Some files) name texts is = ap (λ ts. Ok ts) (sym is)

-- ---- what the parts make
pub joined_given : (held : Option Files) (name : List ℕ) (count : ℕ) (texts : List (List ℕ)) (ps : List Part) (bytes : List ℕ) → Told held (λ files. first_parts files name count ≡ Ok texts)
    → IsJoined texts ps bytes → Told held (λ files. MakePicture (first_parts files name count) bytes)
joined_given None name count texts ps bytes read joined = tt
joined_given (Some files) name count texts ps bytes read joined = subst (λ r. MakePicture r bytes) (sym read) (ps, joined)

pub fault_given : (held : Option Files) (name : List ℕ) (count : ℕ) (texts : List (List ℕ)) (fault : JoinFault) (cause : JoinCause) → Told held (λ files. first_parts files name count ≡ Ok texts)
    → IsFault texts fault → cause_of_fault fault ≡ Some cause → Told held (λ files. MakeNone (first_parts files name count) cause)
fault_given None name count texts fault cause read is because = tt
fault_given (Some files) name count texts fault cause read is because = subst (λ r. MakeNone r cause) (sym read) (fault, because, is)

pub unread_given : (held : Option Files) (name : List ℕ) (count : ℕ) (cause : JoinCause) → Told held (λ files. first_parts files name count ≡ Err cause)
    → Told held (λ files. MakeNone (first_parts files name count) cause)
unread_given None name count cause read = tt
unread_given (Some files) name count cause read = subst (λ r. MakeNone r cause) (sym read) refl

-- what is answered where the parts can't be joined
pub stopped_given : (held : Option Files) (name : List ℕ) (count : ℕ) (texts : List (List ℕ)) (fault : JoinFault) (stop : JoinStop) (r : Result (Vec ℕ Global) JoinStop) → r ≡ Err stop
    → Told held (λ files. first_parts files name count ≡ Ok texts) → IsFault texts fault → IsStopOf fault stop → Told held (λ files. GivesPicture files name count r)
stopped_given None name count texts fault stop r same read is because = tt
stopped_given (Some files) name count texts fault stop r same read is because = subst (λ q. GivesPicture files name count q) (sym same) (by stop because)
  where
    by : (stop : JoinStop) → IsStopOf fault stop → GivesPicture files name count (Err stop)
    by (stops.Cause cause) because = fault_given (Some files) name count texts fault cause read is because
    by stops.ReadFault never = absurd never
    by stops.NoMemory any = tt
