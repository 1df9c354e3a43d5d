-- What a command has to be answered.
use Rattle.std.specs.Prelude.{◌≡◌, ℕ, List, [], ◌∷◌, ◌++◌, length, Option, Some, None, Result, Ok, Err, if◌then◌else◌, nat_lt}
use Rattle.outside.specs.Library.{Files, held_as}
use Rattle.outside.specs.Frames.{Picture}
use Rattle.stock.specs.Demo.{demo}
use Rattle.acceptance.specs.declared.code.FaultCode.TheVariants.{M10}
use Rattle.command_line.specs.declared.command.Action.{Action}
use Rattle.command_line.specs.declared.command.Action.TheVariants.{Render, Check, Part}
use Rattle.command_line.specs.declared.command.RunOptions.{RunOptions}
use Rattle.acceptance.specs.declared.refusal.FileId.TheVariants.{Scene}
use Rattle.acceptance.specs.Causes.{Cause, Missing, At, Reads}
use Rattle.acceptance.specs.Codes.{status_of_code}
use Rattle.command_line.specs.Command.{Source, File, Demo, SceneTask, Command, OnScene, Join, command_of}
use Rattle.part_files.specs.declared.cause.JoinCause.{JoinCause}
use Rattle.part_files.specs.Parts.{first_parts, asked_parts, MakePicture, MakeNone, status_of_join}
use Rattle.render.specs.Parts.{task_of, parts_of_frames}
use Rattle.acceptance.specs.Accepting.{accepted, asked_for_scene, scene_of_text}
use Rattle.shader_binding.specs.Sets.{AcceptedValue}
use Rattle.render.specs.Pictures.{frames_of}

-- the most bytes of a scene file
abbrev pub most_bytes : ℕ
most_bytes = 16777216

-- the text that is held under a name, or why it isn't read
abbrev pub text_of_held : List ℕ → Option (List ℕ) → Reads (List ℕ)
text_of_held name None = Err (Missing name)
text_of_held name (Some bytes) = if nat_lt most_bytes (length bytes) then Err (At Scene 1 M10) else Ok bytes

-- a scene is accepted to be rendered or checked; these entries are to be written, which are parts of its frames, or a picture that parts make
pub data Verdict : Type 0 where
  Usage : Verdict
  Refused : (cause : Cause) → Verdict
  Unjoined : (cause : JoinCause) → Verdict
  Accepted : (action : Action) → (accepted : AcceptedValue) → Verdict
  Entries : (entries : List Picture) → Verdict

-- what an accepted scene of this text is for
abbrev pub verdict_of_accepted : Action → RunOptions → List ℕ → AcceptedValue → Verdict
verdict_of_accepted Render options text accepted = Accepted Render accepted
verdict_of_accepted Check options text accepted = Accepted Check accepted
verdict_of_accepted (Part part count) options text accepted = Entries (parts_of_frames (task_of part count options text) accepted)

-- the verdict on a text that was accepted or refused
abbrev pub verdict_of_read : Action → RunOptions → List ℕ → Reads AcceptedValue → Verdict
verdict_of_read action options text (Ok accepted) = verdict_of_accepted action options text accepted
verdict_of_read action options text (Err cause) = Refused cause

-- the verdict on a text that is held, or on its being missing or too long
abbrev pub verdict_of_text : Action → RunOptions → Files → Reads (List ℕ) → Verdict
verdict_of_text action options files (Ok text) = verdict_of_read action options text (accepted files text)
verdict_of_text action options files (Err cause) = Refused cause

-- the text of a command's scene, or why it isn't read
abbrev pub text_of_source : Files → Source → Reads (List ℕ)
text_of_source files (File name) = text_of_held name (held_as files name)
text_of_source files (Demo count) = Ok (demo count)

-- the verdict on a command on a scene
abbrev pub verdict_of_scene : SceneTask → Files → Verdict
verdict_of_scene t files = verdict_of_text t.action t.options files (text_of_source files t.source)

-- what parts that were read make: their picture, or none for some cause
abbrev pub IsJoinVerdict : List ℕ → Result (List (List ℕ)) JoinCause → Verdict → Type 0
IsJoinVerdict name parts (Entries entries) = (bytes : List ℕ) × (entries ≡ record { name = name; bytes = bytes } ∷ []) × MakePicture parts bytes
IsJoinVerdict name parts (Unjoined cause) = MakeNone parts cause
IsJoinVerdict name parts _ = ⊥

-- the verdict of a command over the files that are held
abbrev pub IsVerdict : Option Command → Files → Verdict → Type 0
IsVerdict None files v = v ≡ Usage
IsVerdict (Some (OnScene t)) files v = v ≡ verdict_of_scene t files
IsVerdict (Some (Join name count)) files v = IsJoinVerdict name (first_parts files name count) v

-- the verdict on these words over these files
abbrev pub IsVerdictOf : List (List ℕ) → Files → Verdict → Type 0
IsVerdictOf words files v = IsVerdict (command_of words) files v

-- a verdict that this command can have, whatever files are held: on some scene, or why there is none; some picture of its name, or why there is none
abbrev pub IsJoinKind : List ℕ → Verdict → Type 0
IsJoinKind name (Entries entries) = (bytes : List ℕ) × (entries ≡ record { name = name; bytes = bytes } ∷ [])
IsJoinKind name (Unjoined cause) = Unit {0}
IsJoinKind name _ = ⊥

abbrev pub IsOfKind : Option Command → Verdict → Type 0
IsOfKind None v = v ≡ Usage
IsOfKind (Some (OnScene t)) v = (text : List ℕ) × (read : Reads AcceptedValue) × (v ≡ verdict_of_read t.action t.options text read)
IsOfKind (Some (Join name count)) v = IsJoinKind name v

-- there is no verdict on parts
abbrev pub IsNone : Option Command → Verdict → Type 0
IsNone (Some (Join name count)) v = v ≡ Entries []
IsNone _ v = ⊥

-- the verdict of a command's words is such a one
abbrev pub HasVerdict : List (List ℕ) → Files → (Verdict → Type 0) → Type 0
HasVerdict words files P = (v : Verdict) × IsVerdictOf words files v × P v

-- the status of a cause
abbrev pub status_of_cause : Cause → ℕ
status_of_cause (Missing file) = 6
status_of_cause (At file line code) = status_of_code code

-- the status that a verdict has
abbrev pub status_of : Verdict → ℕ
status_of Usage = 2
status_of (Refused cause) = status_of_cause cause
status_of (Unjoined cause) = status_of_join cause
status_of (Accepted action accepted) = 0
status_of (Entries entries) = 0

-- the frames to write: those of an accepted scene that is to be rendered, parts of them, or the picture that parts make
abbrev pub pictures_of : Verdict → List Picture
pictures_of (Accepted Render accepted) = frames_of accepted
pictures_of (Entries entries) = entries
pictures_of _ = []

-- the names to ask for: that of the scene's file, and where the scene is read those of its shaders' files, up to and with the first that is refused,
-- and where all fits those of its textures' files, up to and with the first that is refused; those of the parts' files, up to and with the first that
-- isn't read
abbrev pub asked_for_text : Files → Reads (List ℕ) → List (List ℕ)
asked_for_text files (Ok text) = asked_for_scene files (scene_of_text text)
asked_for_text files (Err cause) = []

abbrev pub names_of_source : Source → List (List ℕ)
names_of_source (File name) = name ∷ []
names_of_source (Demo count) = []

-- the names that are asked for a command
abbrev pub asked_for_command : Option Command → Files → List (List ℕ)
asked_for_command None files = []
asked_for_command (Some (OnScene t)) files = names_of_source t.source ++ asked_for_text files (text_of_source files t.source)
asked_for_command (Some (Join name count)) files = asked_parts files name count

-- the names that are asked of the library for these words
abbrev pub asked_of : List (List ℕ) → Files → List (List ℕ)
asked_of words files = asked_for_command (command_of words) files
