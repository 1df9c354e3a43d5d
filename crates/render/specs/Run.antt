-- What a run promises: of its words and the files held, and of what the sink and the library told before and tell now.
use Rattle.std.specs.Prelude.{◌≡◌, ◌⊎◌, ℕ, Bool, true, false, List, Option, Some, None, map}
use Rattle.outside.specs.Library.{Files}
use Rattle.outside.specs.Sink.{Written}
use Rattle.outside.specs.Frames.{whole, Adds, AddsFront}
use Rattle.outside.specs.Asked.{AsksFront}
use Rattle.command_line.specs.declared.command.Action.{Action}
use Rattle.command_line.specs.declared.command.Action.TheVariants.{Render, Check, Part}
use Rattle.command_line.specs.Command.{Command, OnScene, Join, command_of}
use Rattle.render.specs.Verdict.{Verdict, Usage, Refused, Unjoined, Accepted, Entries, IsVerdictOf, HasVerdict, status_of, pictures_of, asked_of}

-- the words are no command
abbrev pub IsUsage : List (List ℕ) → Type 0
IsUsage words = command_of words ≡ None

-- the words are a command that writes frames
abbrev pub draws_action : Action → Bool
draws_action Render = true
draws_action Check = false
draws_action (Part part count) = true

abbrev pub draws_command : Option Command → Bool
draws_command None = false
draws_command (Some (OnScene t)) = draws_action t.action
draws_command (Some (Join name count)) = true

-- whether words are a command that writes frames
abbrev pub draws : List (List ℕ) → Bool
draws words = draws_command (command_of words)

-- the words are a command that joins parts
abbrev pub joins_parts : Option Command → Bool
joins_parts None = false
joins_parts (Some (OnScene t)) = false
joins_parts (Some (Join name count)) = true

-- the verdict is an accepted scene, or parts that make a picture
abbrev pub is_accepted : Verdict → Bool
is_accepted Usage = false
is_accepted (Refused cause) = false
is_accepted (Unjoined cause) = false
is_accepted (Accepted action accepted) = true
is_accepted (Entries entries) = true

-- the verdict on these words over these files is an accepted scene
abbrev pub IsAccepted : List (List ℕ) → Files → Type 0
IsAccepted words files = HasVerdict words files (λ v. is_accepted v ≡ true)

-- the verdict has this status
abbrev pub HasStatus : List (List ℕ) → Files → ℕ → Type 0
HasStatus words files status = HasVerdict words files (λ v. status_of v ≡ status)

-- the scene is refused, the parts make no picture, or the words are no command
abbrev pub IsRefused : List (List ℕ) → Files → Type 0
IsRefused words files = HasVerdict words files (λ v. is_accepted v ≡ false)

-- the answer is the status of the verdict, or want of memory
abbrev pub AnswersVerdict : List (List ℕ) → Files → ℕ → Type 0
AnswersVerdict words files answer = HasStatus words files answer ⊎ (answer ≡ 9)

-- the frames of the verdict were added, each whole and ended: those of its scene, none where it was to be checked; parts of them; or the picture that
-- parts make
abbrev pub AddsFrames : List (List ℕ) → Files → Option (List Written) → Option (List Written) → Type 0
AddsFrames words files old new = HasVerdict words files (λ v. Adds (map whole (pictures_of v)) old new)

-- a prefix of those frames was added, whatever the verdict is
abbrev pub AddsFirstFrames : List (List ℕ) → Files → Option (List Written) → Option (List Written) → Type 0
AddsFirstFrames words files old new = (v : Verdict) → IsVerdictOf words files v → AddsFront (pictures_of v) old new

-- the first of the names that the verdict asks for were asked for, in its order
abbrev pub AsksFirstNames : List (List ℕ) → Files → Option (List (List ℕ)) → Option (List (List ℕ)) → Type 0
AsksFirstNames words files old new = AsksFront (asked_of words files) old new
