-- What a question has to be answered.
use Rattle.std.specs.Prelude.{◌≡◌, ℕ, Bool, ◌&&◌, nat_le, nat_lt, List, [], ◌∷◌, ◌++◌, codes, Option, Some, None, Ok, Err, slice_get, if◌then◌else◌}
use Rattle.fixed_math.specs.Spots.{PixelRect}
use Rattle.outside.specs.Library.{Files, held_as}
use Rattle.scene.specs.Settings.{crop_of}
use Rattle.scene.specs.Scene.{FrameValue}
use Rattle.shader_binding.specs.Sets.{AcceptedValue}
use Rattle.acceptance.specs.Causes.{Cause, Reads}
use Rattle.acceptance.specs.Accepting.{accepted}
use Rattle.render.specs.Verdict.{text_of_held, asked_for_text, status_of_cause}
use Rattle.render.specs.Notes.{note_of}
use Rattle.render.specs.Lines.{failure_lines}
use Rattle.pixel_record.specs.declared.pixel.PixelAccount.{PixelAccount}
use Rattle.pixel_account.specs.Account.{IsAccount}
use Rattle.account_text.specs.Account.{account_text}
use Rattle.why_words.specs.Question.{Question, question_of}

-- the question is none, or about no pixel of the scene; its scene is refused; or it is about a pixel of a frame of an accepted scene
pub data Verdict : Type 0 where
  Usage : Verdict
  Refused : (cause : Cause) → Verdict
  Asked : (question : Question) → (accepted : AcceptedValue) → (frame : FrameValue) → Verdict

-- a pixel lies in a rectangle of pixels
abbrev pub is_in : PixelRect → ℕ → ℕ → Bool
is_in r x y = nat_le r.left x && (nat_lt x r.right && (nat_le r.top y && nat_lt y r.bottom))

-- a frame, where its picture has this pixel
abbrev pub with_pixel : ℕ → ℕ → Option FrameValue → Option FrameValue
with_pixel x y None = None
with_pixel x y (Some f) = if is_in (crop_of f.options) x y then Some f else None

-- the frame that a question is about, among those of a scene, where its picture has the pixel
abbrev pub frame_asked : Question → List FrameValue → Option FrameValue
frame_asked q frames = with_pixel q.x q.y (slice_get frames q.frame)

abbrev pub verdict_on_frame : Question → AcceptedValue → Option FrameValue → Verdict
verdict_on_frame q a None = Usage
verdict_on_frame q a (Some f) = Asked q a f

-- the verdict on a question about a scene that was read
abbrev pub verdict_on : Question → Reads AcceptedValue → Verdict
verdict_on q (Ok a) = verdict_on_frame q a (frame_asked q a.scene.frames)
verdict_on q (Err cause) = Refused cause

-- the accepted scene of a text that was read
abbrev pub scene_of_read : Files → Reads (List ℕ) → Reads AcceptedValue
scene_of_read files (Ok text) = accepted files text
scene_of_read files (Err cause) = Err cause

-- the accepted scene of the file of a name, or why it is refused: as where it is drawn
abbrev pub scene_named : List ℕ → Files → Reads AcceptedValue
scene_named name files = scene_of_read files (text_of_held name (held_as files name))

abbrev pub verdict_of_question : Option Question → Files → Verdict
verdict_of_question None files = Usage
verdict_of_question (Some q) files = verdict_on q (scene_named q.name files)

-- the verdict on these words over these files
abbrev pub verdict_of : List (List ℕ) → Files → Verdict
verdict_of words files = verdict_of_question (question_of words) files

-- the status of a verdict
abbrev pub status_of : Verdict → ℕ
status_of Usage = 2
status_of (Refused cause) = status_of_cause cause
status_of (Asked q a f) = 0

-- a text answers a question: it is that of the account of the pixel
abbrev pub IsAnswer : Verdict → List ℕ → Type 0
IsAnswer Usage text = ⊥
IsAnswer (Refused cause) text = ⊥
IsAnswer (Asked q a f) text = (account : PixelAccount) × IsAccount a f q.frame q.x q.y account × (text ≡ account_text q.name q.points account)

-- the name of a question's scene
abbrev pub name_of : Option Question → List ℕ
name_of None = []
name_of (Some q) = q.name

-- the line that tells why there is no answer
abbrev pub refusal_lines : List ℕ → Verdict → List (List ℕ)
refusal_lines name Usage = codes "usage\n" ∷ []
refusal_lines name (Refused cause) = note_of name cause ∷ []
refusal_lines name (Asked q a f) = []

-- the line of a status; there is none where the question is answered
abbrev pub status_lines : List ℕ → Verdict → ℕ → List (List ℕ)
status_lines name v status = if nat_lt status 7 then refusal_lines name v else failure_lines status

-- the names that are asked for: that of the scene's file, and where it is read those of its shaders' and its textures' files
abbrev pub names_for : List ℕ → Files → List (List ℕ)
names_for name files = name ∷ [] ++ asked_for_text files (text_of_held name (held_as files name))

abbrev pub asked_for_question : Option Question → Files → List (List ℕ)
asked_for_question None files = []
asked_for_question (Some q) files = names_for q.name files

abbrev pub asked_of : List (List ℕ) → Files → List (List ℕ)
asked_of words files = asked_for_question (question_of words) files
