-- A fetch of a file that is there.
use Rattle.std.proofs.Common.{◌≡◌, ◌≢◌, ℕ, ◌+◌, ◌≤◌, ◌<◌, true, false, [], ◌++◌, List, Some, None, length, length-append, take, drop, refl, sym, ap, ◌∙◌, arith, rules}
use Rattle.std.proofs.lemmas.Grind.{common_steps}
use Rattle.std.proofs.lemmas.List.{append-nil}
use Rattle.std.specs.Prelude.{if◌then◌else◌, nat_le}
use Rattle.std.proofs.lemmas.Bool.Decides.{nat_tests}
use Rattle.outside.specs.Library.{Files, Fetches, held_as}
use Rattle.outside.specs.Shelf.{Appended, answer_of}
use Rattle.outside.specs.declared.library.Fetch.{Fetch}
use Rattle.outside.specs.declared.library.Fetch.TheVariants.{Whole, Missing, TooLong, Failed, NoMemory}

split : (n : ℕ) (bytes : List ℕ) → bytes ≡ take n bytes ++ drop n bytes
split n bytes = search (rules, common_steps)

-- nothing is held under the name
pub fetches-missing : (limit : ℕ) (files : Files) (name old : List ℕ) → held_as files name ≡ None → Fetches Missing limit (Some files) name old old
fetches-missing limit files name old held = record { bytes = []; added = sym (append-nil old); size = refl; content = held }

-- these bytes are held under it
pub fetches-appended : (r : Fetch) (limit : ℕ) (files : Files) (name bytes old new : List ℕ) → Appended r limit bytes old new → held_as files name ≡ Some bytes → Fetches r limit (Some files) name old new
fetches-appended Whole limit files name bytes old new h held = record { bytes = bytes; added = h.1; size = h.0; content = held }
fetches-appended TooLong limit files name bytes old new h held =
    record { bytes = take (limit + 1) bytes; added = h.1; size = grind (arith, common_steps); content = (drop (limit + 1) bytes, held ∙ ap (λ b. Some b) (split (limit + 1) bytes)) }
fetches-appended NoMemory limit files name bytes old new h held =
    record { bytes = []; added = grind (arith, common_steps); size = tt; content = rw held (bytes, refl) }
fetches-appended Missing limit files name bytes old new h held = absurd h
fetches-appended Failed limit files name bytes old new h held = absurd h

whole_within : (limit size : ℕ) → size ≤ limit → (if nat_le size limit then Whole else TooLong) ≡ Whole
whole_within limit size le = let e : nat_le size limit ≡ true = grind (arith, nat_tests) in ap (λ b. if b then Whole else TooLong) e

too_long_past : (limit size : ℕ) → limit < size → (if nat_le size limit then Whole else TooLong) ≡ TooLong
too_long_past limit size lt = let e : nat_le size limit ≡ false = grind (arith, nat_tests) in ap (λ b. if b then Whole else TooLong) e

-- Over a library that tells, an answer that is neither a fault nor want of memory is the one that what is held gives.
-- So nothing is held exactly where it is Missing, and a file within the limit comes whole.
pub fetches-answer : (r : Fetch) (limit : ℕ) (files : Files) (name old new : List ℕ) → Fetches r limit (Some files) name old new → r ≢ Failed → r ≢ NoMemory → r ≡ answer_of false limit (held_as files name)
fetches-answer Whole limit files name old new f not_failed not_memory = sym (ap (answer_of false limit) f.content ∙ whole_within limit (length f.bytes) f.size)
fetches-answer Missing limit files name old new f not_failed not_memory = sym (ap (answer_of false limit) f.content)
fetches-answer TooLong limit files name old new f not_failed not_memory =
    sym (ap (answer_of false limit) f.content.1 ∙ too_long_past limit (length (f.bytes ++ f.content.0)) (omega (arith, f.size, length-append f.bytes f.content.0)))
fetches-answer Failed limit files name old new f not_failed not_memory = absurd (not_failed refl)
fetches-answer NoMemory limit files name old new f not_failed not_memory = absurd (not_memory refl)
