-- Parts of a picture as files.
use Rattle.std.specs.Prelude.{ℕ, zero, suc, ◌+◌, ◌-◌, ◌≡◌, nat_lt, List, [], ◌∷◌, ◌++◌, length, codes, decimal, Option, Some, None, Result, Ok, Err, if◌then◌else◌}
use Rattle.outside.specs.Library.{Files, held_as}
use Rattle.parts.specs.Formats.{Part}
use Rattle.parts.specs.Joining.{IsJoined, IsFault}
use Rattle.parts.specs.declared.fault.JoinFault.{JoinFault}
use Rattle.parts.specs.declared.fault.JoinFault.TheVariants as faults
use Rattle.part_files.specs.declared.cause.JoinCause.{JoinCause}
use Rattle.part_files.specs.declared.cause.JoinCause.TheVariants.{Missing, At}
use Rattle.part_files.specs.declared.cause.JoinCode.{JoinCode}
use Rattle.part_files.specs.declared.cause.JoinCode.TheVariants.{J1, J2, J3, J4, M10}

-- the name of the file of a part, where the whole has this name
abbrev pub part_name : List ℕ → ℕ → List ℕ
part_name name part = name ++ (codes "." ++ (decimal part ++ codes ".part"))

-- the most bytes of all parts that are joined
abbrev pub most_part_bytes : ℕ
most_part_bytes = 134217728

abbrev pub total_length : List (List ℕ) → ℕ
total_length [] = 0
total_length (text ∷ texts) = length text + total_length texts

-- the text of a part, where it is held and at most so long
abbrev pub part_within : ℕ → ℕ → Option (List ℕ) → Result (List ℕ) JoinCause
part_within room part None = Err (Missing part)
part_within room part (Some text) = if nat_lt room (length text) then Err (At (Some part) M10) else Ok text

-- some texts and one more, which isn't read where one of those isn't
abbrev pub behind : List (List ℕ) → Result (List ℕ) JoinCause → Result (List (List ℕ)) JoinCause
behind texts (Ok text) = Ok (texts ++ text ∷ [])
behind texts (Err cause) = Err cause

abbrev pub with_part : ℕ → Option (List ℕ) → Result (List (List ℕ)) JoinCause → Result (List (List ℕ)) JoinCause
with_part part held (Ok texts) = behind texts (part_within (most_part_bytes - total_length texts) part held)
with_part part held (Err cause) = Err cause

-- the texts of the first n parts, or the first part that isn't held or with which they are too long together
abbrev pub first_parts : Files → List ℕ → ℕ → Result (List (List ℕ)) JoinCause
first_parts files name zero = Ok []
first_parts files name (suc n) = with_part n (held_as files (part_name name n)) (first_parts files name n)

-- a part is asked for where those before it are read
abbrev pub asked_behind : List ℕ → Result (List (List ℕ)) JoinCause → List (List ℕ) → List (List ℕ)
asked_behind file (Ok texts) names = names ++ file ∷ []
asked_behind file (Err cause) names = names

-- the names of the parts' files, in order, up to the first that is missing or too long
abbrev pub asked_parts : Files → List ℕ → ℕ → List (List ℕ)
asked_parts files name zero = []
asked_parts files name (suc n) = asked_behind (part_name name n) (first_parts files name n) (asked_parts files name n)

-- why parts aren't joined, where they have this fault
abbrev pub cause_of_fault : JoinFault → Option JoinCause
cause_of_fault (faults.J1 part) = Some (At (Some part) J1)
cause_of_fault (faults.J2 part) = Some (At (Some part) J2)
cause_of_fault (faults.J3 part bucket) = Some (At (Some part) J3)
cause_of_fault (faults.J4 bucket) = Some (At None J4)
cause_of_fault faults.NoMemory = None

-- the parts that were read make this picture
abbrev pub MakePicture : Result (List (List ℕ)) JoinCause → List ℕ → Type 0
MakePicture (Ok texts) bytes = (ps : List Part) × IsJoined texts ps bytes
MakePicture (Err cause) bytes = ⊥

-- they make none, for this cause: one isn't read, or the first fault of joining
abbrev pub MakeNone : Result (List (List ℕ)) JoinCause → JoinCause → Type 0
MakeNone (Ok texts) cause = (fault : JoinFault) × (cause_of_fault fault ≡ Some cause) × IsFault texts fault
MakeNone (Err first) cause = cause ≡ first

-- the text of a code of joining
abbrev pub join_code_text : JoinCode → List ℕ
join_code_text J1 = codes "J1"
join_code_text J2 = codes "J2"
join_code_text J3 = codes "J3"
join_code_text J4 = codes "J4"
join_code_text M10 = codes "M10"

-- the status of a fault of joining
abbrev pub status_of_join_code : JoinCode → ℕ
status_of_join_code J1 = 3
status_of_join_code J2 = 3
status_of_join_code J3 = 3
status_of_join_code J4 = 3
status_of_join_code M10 = 5

-- the status of a command whose parts can't be joined
abbrev pub status_of_join : JoinCause → ℕ
status_of_join (Missing part) = 6
status_of_join (At part code) = status_of_join_code code
