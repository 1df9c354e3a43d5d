-- What the code's answers say of the verdict.
use Rattle.std.specs.Prelude.{◌≡◌, ℕ, List, [], ◌∷◌, codes, Option, Some, None, Result, Ok, Err, String, string_bytes}
use Rattle.std.specs.declared.alloc.Global.{Global}
use Rattle.fixed_math.specs.declared.memory.NoMemory.{NoMemory as NoMemoryError}
use Rattle.shader_binding.specs.Sets.{AcceptedValue}
use Rattle.acceptance.specs.Causes as causes
use Rattle.acceptance.specs.Causes.{Cause, Reads}
use Rattle.acceptance.specs.Answers.{Because, status_of_refusal}
use Rattle.acceptance.specs.declared.refusal.Refusal.TheVariants as refusals
use Rattle.render.specs.Notes.{note_of}
use Rattle.render.specs.Answers.{accepted_in}
use Rattle.render.specs.declared.accepted.Accepted.{Accepted}
use Rattle.why_run.specs.Verdict as verdicts
use Rattle.why_run.specs.Verdict.{Verdict, IsAnswer}
use Rattle.why_run.specs.declared.stop.Stop.{Stop}
use Rattle.why_run.specs.declared.stop.Stop.TheVariants.{Usage, NoScene, Refused, WriteFault, NoMemory}

-- the accepted scene of a name, or why it is refused
abbrev pub GivesScene : List ℕ → Result Accepted Stop → Reads AcceptedValue → Type 0
GivesScene name (Ok a) read = read ≡ Ok (accepted_in a)
GivesScene name (Err NoScene) read = read ≡ Err (causes.Missing name)
GivesScene name (Err (Refused refusal)) read = Because refusal (causes.cause_in read)
GivesScene name (Err NoMemory) read = Unit {0}
GivesScene name (Err Usage) read = ⊥
GivesScene name (Err WriteFault) read = ⊥

-- the stop is that of this verdict, where the scene has this name
abbrev pub IsOf : List ℕ → Stop → Verdict → Type 0
IsOf name Usage v = v ≡ verdicts.Usage
IsOf name NoScene v = v ≡ verdicts.Refused (causes.Missing name)
IsOf name (Refused (refusals.Missing file)) v = v ≡ verdicts.Refused (causes.Missing file)
IsOf name (Refused (refusals.At file line code)) v = v ≡ verdicts.Refused (causes.At file line code)
IsOf name (Refused refusals.ReadFault) v = Unit {0}
IsOf name (Refused refusals.NoMemory) v = Unit {0}
IsOf name WriteFault v = verdicts.status_of v ≡ 0
IsOf name NoMemory v = Unit {0}

-- a text is the answer, or the stop is that of the verdict
abbrev pub GivesAnswer : List ℕ → Result (String Global) Stop → Verdict → Type 0
GivesAnswer name (Ok text) v = IsAnswer v (string_bytes text)
GivesAnswer name (Err stop) v = IsOf name stop v

-- the status of a stop
abbrev pub number_of : Stop → ℕ
number_of Usage = 2
number_of NoScene = 6
number_of (Refused refusal) = status_of_refusal refusal
number_of WriteFault = 8
number_of NoMemory = 9

-- the line of a stop, where the scene has this name
abbrev pub line_of : List ℕ → Stop → List ℕ
line_of name Usage = codes "usage\n"
line_of name NoScene = note_of name (causes.Missing name)
line_of name (Refused (refusals.Missing file)) = note_of name (causes.Missing file)
line_of name (Refused (refusals.At file line code)) = note_of name (causes.At file line code)
line_of name (Refused refusals.ReadFault) = codes "read fault\n"
line_of name (Refused refusals.NoMemory) = codes "no memory\n"
line_of name WriteFault = codes "write fault\n"
line_of name NoMemory = codes "no memory\n"

-- the stop is a fault at a line of a file
abbrev pub IsFaultAt : Stop → Type 0
IsFaultAt (Refused (refusals.At file line code)) = Unit {0}
IsFaultAt _ = ⊥
