-- What the code's answers say of parts that are joined.
use Rattle.std.specs.Prelude.{◌≡◌, ℕ, List, Option, Some, Result, Ok, Err, Vec}
use Rattle.std.specs.declared.alloc.Global.{Global}
use Rattle.outside.specs.Library.{Files}
use Rattle.parts.specs.declared.fault.JoinFault.{JoinFault}
use Rattle.part_files.specs.Parts.{part_within, first_parts, cause_of_fault, MakePicture, MakeNone}
use Rattle.part_files.specs.declared.stop.JoinStop.{JoinStop}
use Rattle.part_files.specs.declared.stop.JoinStop.TheVariants.{Cause, ReadFault, NoMemory}

-- a part's text, or why it isn't read
abbrev pub GivesPart : ℕ → ℕ → Result (Vec ℕ Global) JoinStop → Option (List ℕ) → Type 0
GivesPart part room (Ok text) held = part_within room part held ≡ Ok text.items
GivesPart part room (Err (Cause cause)) held = part_within room part held ≡ Err cause
GivesPart part room (Err ReadFault) held = Unit {0}
GivesPart part room (Err NoMemory) held = Unit {0}

-- the texts of so many parts, or why not
abbrev pub GivesParts : Files → List ℕ → ℕ → Result (Vec (List ℕ) Global) JoinStop → Type 0
GivesParts files name count (Ok texts) = first_parts files name count ≡ Ok texts.items
GivesParts files name count (Err (Cause cause)) = first_parts files name count ≡ Err cause
GivesParts files name count (Err ReadFault) = Unit {0}
GivesParts files name count (Err NoMemory) = Unit {0}

-- a fault stops joining by its cause
abbrev pub IsStopOf : JoinFault → JoinStop → Type 0
IsStopOf fault (Cause cause) = cause_of_fault fault ≡ Some cause
IsStopOf fault ReadFault = ⊥
IsStopOf fault NoMemory = Unit {0}

-- the picture that the parts make, or why they make none
abbrev pub GivesPicture : Files → List ℕ → ℕ → Result (Vec ℕ Global) JoinStop → Type 0
GivesPicture files name count (Ok picture) = MakePicture (first_parts files name count) picture.items
GivesPicture files name count (Err (Cause cause)) = MakeNone (first_parts files name count) cause
GivesPicture files name count (Err ReadFault) = Unit {0}
GivesPicture files name count (Err NoMemory) = Unit {0}
