-- How a run goes: by which verdict, how many frames it ends, and what it says of them.
use Rattle.std.specs.Prelude.{◌≡◌, ◌≢◌, ◌≤◌, ◌+◌, ◌⊎◌, ℕ, true, List, [], ◌∷◌, ◌++◌, length, map, take, drop, Option}
use Rattle.outside.specs.Causes.{Told}
use Rattle.outside.specs.Library.{Files}
use Rattle.outside.specs.Sink.{Written}
use Rattle.outside.specs.Frames.{Picture, whole, Adds, IsPart}
use Rattle.outside.specs.NoteLines.{Says}
use Rattle.command_line.specs.Command.{command_of}
use Rattle.render.specs.Verdict.{Verdict, IsVerdict, IsOfKind, IsNone, status_of, pictures_of}
use Rattle.render.specs.Run.{is_accepted, joins_parts}
use Rattle.render.specs.Lines.{summaries_of, scene_of, status_lines}

-- nothing of the first of these pictures, or a part of it
abbrev pub IsBegun : List Picture → List Written → Type 0
IsBegun [] added = added ≡ []
IsBegun (p ∷ ps) added = IsPart added p

-- so many first frames were added, each whole and ended, and then nothing or a part of the next
pub record Ends (ended : ℕ) (pictures : List Picture) (old new : Option (List Written)) : Type 0 where
  pub few : ended ≤ length pictures
  pub rest : List Written
  pub adds : Adds (map whole (take ended pictures) ++ rest) old new
  pub begun : IsBegun (drop ended pictures) rest

-- The course of a run that answers `status`: its verdict is one that its command can have, and that of the files held, wherever the library tells them;
-- on parts there may be none where the library failed or memory ran out, and then nothing is written. Where parts are joined, no entry is ended but where
-- all is done. The lines said are the summaries of the frames ended and the line of the status; of the last frame ended none where memory ran out behind it.
pub record Course (words : List (List ℕ)) (held : Option Files) (status : ℕ) (old new : Option (List Written)) (lines lines_then : Option (List (List ℕ))) (faults faults_then : ℕ) : Type 0 where
  pub verdict_of_run : Verdict
  pub known : Told held (λ files. IsVerdict (command_of words) files verdict_of_run ⊎ (IsNone (command_of words) verdict_of_run × ((status ≡ 7) ⊎ (status ≡ 9))))
  pub own : IsOfKind (command_of words) verdict_of_run ⊎ (IsNone (command_of words) verdict_of_run × ((status ≡ 7) ⊎ (status ≡ 9)))
  pub answers : status ≤ 6 → status_of verdict_of_run ≡ status
  pub accepted : status ≡ 8 → is_accepted verdict_of_run ≡ true
  pub ended : ℕ
  pub ends : Ends ended (pictures_of verdict_of_run) old new
  pub all : status ≡ 0 → ended ≡ length (pictures_of verdict_of_run)
  pub none : 2 ≤ status → status ≤ 7 → ended ≡ 0
  pub unjoined : joins_parts (command_of words) ≡ true → status ≢ 0 → ended ≡ 0
  pub told : ℕ
  pub behind : (told ≡ ended) ⊎ ((status ≡ 9) × (told + 1 ≡ ended))
  pub says : Says (summaries_of (command_of words) verdict_of_run told ++ status_lines (scene_of (command_of words)) verdict_of_run status) lines lines_then faults faults_then
