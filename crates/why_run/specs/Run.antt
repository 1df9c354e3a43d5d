-- What a run promises.
use Rattle.std.specs.Prelude.{◌≡◌, ◌≤◌, ◌⊎◌, ℕ, List, [], ◌∷◌, ◌++◌, codes, Option, option_map}
use Rattle.outside.specs.NoteLines.{Says}
use Rattle.why_run.specs.Verdict.{Verdict, IsAnswer}
use Rattle.why_run.specs.Answers.{line_of, number_of, IsFaultAt}
use Rattle.why_run.specs.declared.stop.Stop.{Stop}

-- the output has one line more, which is the verdict's answer
abbrev pub Answers : Verdict → Option (List (List ℕ)) → Option (List (List ℕ)) → Type 0
Answers v old new = (text : List ℕ) × IsAnswer v text × (new ≡ option_map (λ ls. ls ++ text ∷ []) old)

-- the notes are given the line of a stop, and the status is its own, which is at most 5 at a fault in a file; or there was no memory for the line, of which they are told
abbrev pub Tells : List ℕ → Stop → ℕ → Option (List (List ℕ)) → Option (List (List ℕ)) → ℕ → ℕ → Type 0
Tells name stop status old new before now =
    ((status ≡ number_of stop) × (IsFaultAt stop → status ≤ 5) × Says (line_of name stop ∷ []) old new before now) ⊎ ((status ≡ 9) × Says (codes "no memory\n" ∷ []) old new before now)
