-- What a step does to the library that it asks, and to the sink that it writes to.
use Rattle.std.specs.Prelude.{◌≡◌, ◌≤◌, ℕ, Bool, true, false, List, [], ◌∷◌, Option, Result, OnOk, OnErr}
use Rattle.outside.specs.Causes.{Rose, Told}
use Rattle.outside.specs.Library.{Files}
use Rattle.outside.specs.Sink.{Written}
use Rattle.outside.specs.Asked.{AsksAll, AsksFront}
use Rattle.outside.specs.Frames.{Picture, Adds, AddsPart, PutsAll, PutsFront, whole}

-- What a library holds stays, its count of faults doesn't fall, and where the step fails by the library the count rose. Where the library tells
-- what it holds, some first ones of the names that are wanted of these files were asked for. The first three arguments are what the library
-- tells: what it holds, the names asked so far, and the count of its faults.
pub record Consults {L : Type 0} (holds : L → Option Files) (names : L → Option (List (List ℕ))) (count : L → ℕ) (old new : L) (wanted : Files → List (List ℕ)) (fails : Type 0) : Type 0 where
  pub held : holds new ≡ holds old
  pub asked : Told (holds old) (λ files. AsksFront (wanted files) (names old) (names new))
  pub later : count old ≤ count new
  pub read : fails → Rose (count old) (count new)

-- the same of a step that asks for these names whatever is held: for all of them where it succeeds
pub record AsksFor {L T E : Type 0} (holds : L → Option Files) (names : L → Option (List (List ℕ))) (count : L → ℕ) (old new : L) (wanted : List (List ℕ)) (result : Result T E) (fails : Type 0) : Type 0 where
  pub held : holds new ≡ holds old
  pub asked : AsksFront wanted (names old) (names new)
  pub asked_all : OnOk result (AsksAll wanted (names old) (names new))
  pub later : count old ≤ count new
  pub read : fails → Rose (count old) (count new)

-- A step writes frames to a sink: where it succeeds no frame is open. The sink's count of faults doesn't fall, and where the step fails by the sink
-- the count rose. The first three arguments are what the sink tells: its entries, whether one is open, and the count of its faults. `Done` is said of
-- the entries after a success, and `Part` of those after a failure.
pub record Writes {S T E : Type 0} (entries : S → Option (List Written)) (has_open : S → Bool) (count : S → ℕ) (old new : S) (Done Part : Option (List Written) → Type 0) (result : Result T E) (fails : Type 0) : Type 0 where
  pub closed : OnOk result (has_open new ≡ false)
  pub ok : OnOk result (Done (entries new))
  pub err : OnErr result (Part (entries new))
  pub later : count old ≤ count new
  pub failed : fails → Rose (count old) (count new)

-- it writes this picture, whole and ended; after a failure there is nothing more, or a part of it
abbrev pub WritesPicture : {S T E : Type 0} → (S → Option (List Written)) → (S → Bool) → (S → ℕ) → S → S → Picture → Result T E → Type 0 → Type 0
WritesPicture entries has_open count old new picture result fails =
    Writes entries has_open count old new (Adds (whole picture ∷ []) (entries old)) (AddsPart picture (entries old)) result fails

-- the same of a step that puts bytes to the open frame, which stays open
pub record PutsOn {S T E : Type 0} (entries : S → Option (List Written)) (has_open : S → Bool) (count : S → ℕ) (old new : S) (Done Part : Option (List Written) → Type 0) (result : Result T E) (fails : Type 0) : Type 0 where
  pub open' : has_open new ≡ true
  pub ok : OnOk result (Done (entries new))
  pub err : OnErr result (Part (entries new))
  pub later : count old ≤ count new
  pub failed : fails → Rose (count old) (count new)

-- it puts these bytes; after a failure some first ones
abbrev pub PutsBytes : {S T E : Type 0} → (S → Option (List Written)) → (S → Bool) → (S → ℕ) → S → S → List ℕ → Result T E → Type 0 → Type 0
PutsBytes entries has_open count old new bytes result fails = PutsOn entries has_open count old new (PutsAll bytes (entries old)) (PutsFront bytes (entries old)) result fails

-- a frame of the sink is open, and this holds of the entries
pub record HoldsOpen {S : Type 0} (entries : S → Option (List Written)) (has_open : S → Bool) (sink : S) (Has : Option (List Written) → Type 0) : Type 0 where
  pub open' : has_open sink ≡ true
  pub has : Has (entries sink)
