-- What a library in memory answers.
use Rattle.std.specs.Prelude.{◌≡◌, ℕ, ◌+◌, ◌++◌, ◌<◌, ◌≤◌, Bool, true, false, List, [], take, length, Option, Some, None, nat_le, not, if◌then◌else◌, ◌⊎◌}
use Rattle.std.specs.FinMap as finite
use Rattle.outside.specs.Library.{held_as}
use Rattle.outside.specs.CallLog.{no_calls, fails_next, called, naming}
use Rattle.outside.specs.HeldFiles.{HeldFiles}
use Rattle.outside.specs.declared.library.Fetch.{Fetch}
use Rattle.outside.specs.declared.library.Fetch.TheVariants.{Whole, Missing, TooLong, Failed, NoMemory}

-- nothing is held and nothing was asked
abbrev pub empty_shelf : HeldFiles
empty_shelf = record { files = finite.empty; asked = []; log = no_calls }

-- one file more, in the place of an earlier one of its name
abbrev pub with_file : List ℕ → List ℕ → HeldFiles → HeldFiles
with_file name bytes h = record { files = finite.insert h.files name bytes; asked = h.asked; log = h.log }

-- the nth fetch named to fail
abbrev pub naming_fetch : ℕ → HeldFiles → HeldFiles
naming_fetch n h = record { files = h.files; asked = h.asked; log = naming n h.log }

-- a fetch fails where it was named to; else it says what is held
abbrev pub answer_of : Bool → ℕ → Option (List ℕ) → Fetch
answer_of true limit held = Failed
answer_of false limit None = Missing
answer_of false limit (Some bytes) = if nat_le (length bytes) limit then Whole else TooLong

-- which bytes come with an answer
abbrev pub bytes_of : Fetch → ℕ → Option (List ℕ) → List ℕ
bytes_of answer limit None = []
bytes_of Whole limit (Some bytes) = bytes
bytes_of TooLong limit (Some bytes) = take (limit + 1) bytes
bytes_of Missing limit (Some bytes) = []
bytes_of Failed limit (Some bytes) = []
bytes_of NoMemory limit (Some bytes) = []

-- the answer of a fetch, which yields to want of memory
abbrev pub IsAnswer : Fetch → ℕ → List ℕ → HeldFiles → Type 0
IsAnswer answer limit name h = (answer ≡ NoMemory) ⊎ (answer ≡ answer_of (fails_next h.log) limit (held_as h.files name))

abbrev pub has_failed : Fetch → Bool
has_failed Failed = true
has_failed Whole = false
has_failed Missing = false
has_failed TooLong = false
has_failed NoMemory = false

-- after a fetch that asked for these names so far
abbrev pub after_fetch : Fetch → List (List ℕ) → HeldFiles → HeldFiles
after_fetch answer asked h = record { files = h.files; asked = asked; log = called (not (has_failed answer)) h.log }

-- what was appended of a file's bytes, where memory allowed it
abbrev pub Appended : Fetch → ℕ → List ℕ → List ℕ → List ℕ → Type 0
Appended Whole limit bytes old new = (length bytes ≤ limit) × (new ≡ old ++ bytes)
Appended TooLong limit bytes old new = (limit < length bytes) × (new ≡ old ++ take (limit + 1) bytes)
Appended NoMemory limit bytes old new = new ≡ old
Appended Missing limit bytes old new = ⊥
Appended Failed limit bytes old new = ⊥
