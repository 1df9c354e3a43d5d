-- What the code's answers say of the verdict and the sink.
use Rattle.std.specs.Prelude.{◌≡◌, ◌≢◌, ◌+◌, ◌⊎◌, ℕ, List, [], ◌∷◌, length, codes, Option, Some, None, option_map, String, string_bytes, Vec, true, Result, Ok, Err, IfErr}
use Rattle.std.specs.declared.alloc.Global.{Global}
use Rattle.fixed_math.specs.declared.memory.NoMemory.{NoMemory as NoMemoryError}
use Rattle.outside.specs.Causes.{Told}
use Rattle.outside.specs.Library.{Files}
use Rattle.outside.specs.NoteLines.{Says}
use Rattle.outside.specs.Sink.{Written}
use Rattle.outside.specs.Frames.{Picture}
use Rattle.displace_shade.specs.Shop.{set_value}
use Rattle.render.specs.declared.accepted.Accepted.{Accepted}
use Rattle.shader_binding.specs.Sets.{AcceptedValue}
use Rattle.acceptance.specs.Causes as causes
use Rattle.acceptance.specs.Causes.{Cause, Reads}
use Rattle.render.specs.Verdict as verdicts
use Rattle.render.specs.Verdict.{pictures_of}
use Rattle.render.specs.Run.{is_accepted, joins_parts}
use Rattle.render.specs.Pictures.{frames_of}
use Rattle.render.specs.Notes.{note_of, join_note}
use Rattle.render.specs.Lines.{first_summaries, summaries_of, scene_of}
use Rattle.render.specs.Course.{Ends}
use Rattle.buckets.specs.declared.limits.DrawFault.{DrawFault}
use Rattle.buckets.specs.declared.limits.DrawFault.TheVariants as drawing
use Rattle.command_line.specs.Command.{SceneTask, Command, OnScene}
use Rattle.command_line.specs.declared.command.RunOptions.{RunOptions}
use Rattle.acceptance.specs.Answers.{Because, status_of_refusal}
use Rattle.render.specs.declared.load.Loaded.{Loaded}
use Rattle.part_files.specs.Parts.{status_of_join}
use Rattle.part_files.specs.declared.cause.JoinCause.TheVariants as joins
use Rattle.acceptance.specs.declared.refusal.Refusal.{Refusal}
use Rattle.acceptance.specs.declared.refusal.Refusal.TheVariants as refusals
use Rattle.render.specs.declared.program.Answer.{Answer}
use Rattle.render.specs.declared.program.Answer.TheVariants.{Done, Usage, NoScene, Refused, Unjoined, WriteFault, NoMemory}

-- a scene's text, none where no file has that name, or why it isn't read
abbrev pub GivesText : List ℕ → Result (Option (Vec ℕ Global)) Refusal → Reads (List ℕ) → Type 0
GivesText name (Ok (Some text)) read = read ≡ Ok text.items
GivesText name (Ok None) read = read ≡ Err (causes.Missing name)
GivesText name (Err refusal) read = Because refusal (causes.cause_in read)

abbrev pub cause_of : verdicts.Verdict → Option Cause
cause_of (verdicts.Refused cause) = Some cause
cause_of _ = None

-- the accepted scene with its set
abbrev pub accepted_in : Accepted → AcceptedValue
accepted_in a = record { scene = a.scene; set = set_value a.set a.textures }

-- it is the verdict's, or the verdict's refusal; none where no file has the scene's name
abbrev pub LoadsNamed : List ℕ → SceneTask → Result (Option Loaded) Refusal → verdicts.Verdict → Type 0
LoadsNamed name t (Ok (Some l)) v = v ≡ verdicts.verdict_of_accepted t.action t.options l.text.items (accepted_in l.accepted)
LoadsNamed name t (Ok None) v = v ≡ verdicts.Refused (causes.Missing name)
LoadsNamed name t (Err refusal) v = Because refusal (cause_of v)

-- no frame was begun
abbrev pub ComesBefore : Answer → Type 0
ComesBefore Done = ⊥
ComesBefore WriteFault = ⊥
ComesBefore NoMemory = ⊥
ComesBefore Usage = Unit {0}
ComesBefore NoScene = Unit {0}
ComesBefore (Refused refusal) = Unit {0}
ComesBefore (Unjoined cause) = Unit {0}

abbrev pub number_of : Answer → ℕ
number_of Done = 0
number_of Usage = 2
number_of (Refused refusal) = status_of_refusal refusal
number_of NoScene = 6
number_of (Unjoined cause) = status_of_join cause
number_of WriteFault = 8
number_of NoMemory = 9

-- the lines of an answer, where the scene has this name
abbrev pub answer_lines : List ℕ → Answer → List (List ℕ)
answer_lines name Done = []
answer_lines name Usage = codes "usage\n" ∷ []
answer_lines name NoScene = note_of name (causes.Missing name) ∷ []
answer_lines name (Unjoined cause) = join_note name cause ∷ []
answer_lines name (Refused (refusals.Missing file)) = note_of name (causes.Missing file) ∷ []
answer_lines name (Refused (refusals.At file line code)) = note_of name (causes.At file line code) ∷ []
answer_lines name (Refused refusals.ReadFault) = codes "read fault\n" ∷ []
answer_lines name (Refused refusals.NoMemory) = codes "no memory\n" ∷ []
answer_lines name WriteFault = codes "write fault\n" ∷ []
answer_lines name NoMemory = codes "no memory\n" ∷ []

-- the answer is a fault at a line of a file
abbrev pub IsFaultAt : Answer → Type 0
IsFaultAt (Refused (refusals.At file line code)) = Unit {0}
IsFaultAt (Unjoined (joins.At part code)) = Unit {0}
IsFaultAt _ = ⊥

-- a line, where there is one
abbrev pub lines_in : Option (List ℕ) → List (List ℕ)
lines_in None = []
lines_in (Some line) = line ∷ []

-- the lines of a note that was made, or for which memory ran out
abbrev pub note_lines : Result (Option (String Global)) NoMemoryError → List (List ℕ)
note_lines (Ok note) = lines_in (option_map string_bytes note)
note_lines (Err e) = codes "no memory\n" ∷ []

-- the answer is that of this verdict, where the scene has this name
abbrev pub IsOf : List ℕ → Answer → verdicts.Verdict → Type 0
IsOf name Done v = is_accepted v ≡ true
IsOf name WriteFault v = is_accepted v ≡ true
IsOf name NoMemory v = Unit {0}
IsOf name Usage v = v ≡ verdicts.Usage
IsOf name NoScene v = v ≡ verdicts.Refused (causes.Missing name)
IsOf name (Unjoined cause) v = v ≡ verdicts.Unjoined cause
IsOf name (Refused (refusals.Missing file)) v = v ≡ verdicts.Refused (causes.Missing file)
IsOf name (Refused (refusals.At file line code)) v = v ≡ verdicts.Refused (causes.At file line code)
IsOf name (Refused refusals.ReadFault) v = Unit {0}
IsOf name (Refused refusals.NoMemory) v = Unit {0}

-- the library failed, or memory ran out
abbrev pub Fails : Answer → Type 0
Fails (Refused refusals.ReadFault) = Unit {0}
Fails (Refused refusals.NoMemory) = Unit {0}
Fails NoMemory = Unit {0}
Fails _ = ⊥

-- it is the verdict; or there is none on parts, where the library failed or memory ran out
abbrev pub Knows : Option Command → Answer → Files → verdicts.Verdict → Type 0
Knows command answer files v = verdicts.IsVerdict command files v ⊎ (verdicts.IsNone command v × Fails answer)

-- how a command is obeyed: the course of its run without the line of the status
pub record Obeys (command : Option Command) (held : Option Files) (answer : Answer) (old new : Option (List Written)) (lines lines_then : Option (List (List ℕ))) (faults faults_then : ℕ) : Type 0 where
  pub verdict : verdicts.Verdict
  pub known : Told held (λ files. Knows command answer files verdict)
  pub own : verdicts.IsOfKind command verdict ⊎ (verdicts.IsNone command verdict × Fails answer)
  pub is_of : IsOf (scene_of command) answer verdict
  pub ended : ℕ
  pub ends : Ends ended (pictures_of verdict) old new
  pub all : answer ≡ Done → ended ≡ length (pictures_of verdict)
  pub none : ComesBefore answer → ended ≡ 0
  pub unjoined : joins_parts command ≡ true → answer ≢ Done → ended ≡ 0
  pub told : ℕ
  pub behind : (told ≡ ended) ⊎ ((answer ≡ NoMemory) × (told + 1 ≡ ended))
  pub says : Says (summaries_of command verdict told) lines lines_then faults faults_then

-- the same of a task on a scene
abbrev pub ObeysTask : SceneTask → Option Files → Answer → Option (List Written) → Option (List Written) → Option (List (List ℕ)) → Option (List (List ℕ)) → ℕ → ℕ → Type 0
ObeysTask t held answer old new lines lines_then faults faults_then = Obeys (Some (OnScene t)) held answer old new lines lines_then faults faults_then

-- how the frames of an accepted scene are drawn: some first ones, and the summaries of those
pub record Draws (o : RunOptions) (a : AcceptedValue) (ended told : ℕ) (old new : Option (List Written)) (lines lines_then : Option (List (List ℕ))) (faults faults_then : ℕ) : Type 0 where
  pub ends : Ends ended (frames_of a) old new
  pub says : Says (first_summaries o a told) lines lines_then faults faults_then

-- what is left of one frame whose drawing fails: a part of it, or all of it where memory ran out behind it
pub record LeavesFrame (fault : DrawFault) (p : Picture) (old new : Option (List Written)) : Type 0 where
  pub ended : ℕ
  pub ends : Ends ended (p ∷ []) old new
  pub behind : (ended ≡ 0) ⊎ ((fault ≡ drawing.NoMemory) × (ended ≡ 1))

abbrev pub LeavesBy : {T : Type 0} → Result T DrawFault → Picture → Option (List Written) → Option (List Written) → Type 0
LeavesBy result p old new = IfErr result (λ e. LeavesFrame e p old new)

-- some first ones of these pictures were added, and nothing or a part of the next
pub record EndsSome (pictures : List Picture) (old new : Option (List Written)) : Type 0 where
  pub ended : ℕ
  pub ends : Ends ended pictures old new

-- the drawing of frames that fails at one of them
pub record DrawsInPart (o : RunOptions) (a : AcceptedValue) (fault : DrawFault) (old new : Option (List Written)) (lines lines_then : Option (List (List ℕ))) (faults faults_then : ℕ) : Type 0 where
  pub ended : ℕ
  pub told : ℕ
  pub draws : Draws o a ended told old new lines lines_then faults faults_then
  pub behind : (told ≡ ended) ⊎ ((fault ≡ drawing.NoMemory) × (told + 1 ≡ ended))

abbrev pub DrawsBy : {T : Type 0} → RunOptions → AcceptedValue → Result T DrawFault → Option (List Written) → Option (List Written) → Option (List (List ℕ)) → Option (List (List ℕ)) → ℕ → ℕ → Type 0
DrawsBy o a result old new lines lines_then faults faults_then = IfErr result (λ e. DrawsInPart o a e old new lines lines_then faults faults_then)
