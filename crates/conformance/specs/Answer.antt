-- The answer to a case, as text.
use Rattle.std.specs.Prelude.{◌≡◌, ◌≤◌, ℕ, List, [], ◌++◌, map, codes, decimal, length, Bool, true, false}
use Rattle.std.specs.List.{flat_map}
use Rattle.hex.specs.Hex.{encode_lower}
use Rattle.sha2.specs.Sha256.{sha256}
use Rattle.outside.specs.Library.{Files}
use Rattle.outside.specs.Sink.{Written}
use Rattle.outside.specs.Frames.{whole, IsFront}
use Rattle.render.specs.Run.{HasStatus}
use Rattle.render.specs.Verdict.{Verdict, IsVerdictOf, HasVerdict, pictures_of}

-- whether a frame has ended, as a word
abbrev pub state_of : Bool → List ℕ
state_of true = codes "ended"
state_of false = codes "open"

-- the line of a frame: its name, whether it has ended, its length and its digest
unfoldable pub entry_line : Written → List ℕ
entry_line w = codes "entry " ++ (w.name ++ (codes " " ++ (state_of w.ended ++ (codes " " ++ (decimal (length w.bytes) ++ (codes " " ++ (encode_lower (sha256 w.bytes) ++ codes "\n")))))))

-- the lines before the frames
abbrev pub head_text : List ℕ → ℕ → List ℕ → List ℕ
head_text name status notes = (codes "case " ++ (name ++ (codes "\nstatus " ++ (decimal status ++ (codes "\nnotes " ++ (decimal (length notes) ++ codes "\n")))))) ++ (notes ++ codes "\n")

-- the whole answer
abbrev pub answer_text : List ℕ → ℕ → List ℕ → List Written → List ℕ
answer_text name status notes frames = head_text name status notes ++ (flat_map entry_line frames ++ codes "end\n")

-- the answer to a case of this name with these words and files: its status, the bytes of its notes, and the frames of its sink, which are those
-- of the verdict, all of them or some first ones
pub record Answers (name : List ℕ) (words : List (List ℕ)) (files : Files) (text : List ℕ) : Type 0 where
  pub status : ℕ
  pub notes : List ℕ
  pub frames : List Written
  pub written : text ≡ answer_text name status notes frames
  pub judged : status ≤ 6 → HasStatus words files status
  pub done : status ≡ 0 → HasVerdict words files (λ v. frames ≡ map whole (pictures_of v))
  pub front : (v : Verdict) → IsVerdictOf words files v → IsFront (pictures_of v) frames
  pub before : 2 ≤ status → status ≤ 7 → frames ≡ []
