-- Lists of lights one behind another.
use Rattle.std.proofs.Common.{◌≡◌, ◌∙◌, ap, sym, ℕ, ◌+◌, List, [], ◌∷◌, ◌++◌, length, length-append, append_assoc}
use Rattle.std.proofs.lemmas.List.{append-nil}
use Rattle.std.specs.List.{concat}

pub append_nothing : (xs : List ℕ) → xs ++ [] ≡ xs
append_nothing xs = append-nil xs

pub one_run : (run : List ℕ) → concat (run ∷ []) ≡ run
one_run run = append-nil run

pub run_more : (runs : List (List ℕ)) (run : List ℕ) → concat (runs ++ run ∷ []) ≡ concat runs ++ run
run_more [] run = append-nil run
run_more (first ∷ runs) run = ap (λ (lights : List ℕ). first ++ lights) (run_more runs run) ∙ sym (append_assoc first (concat runs) run)

pub run_longer : (runs : List (List ℕ)) (run : List ℕ) → length (concat (runs ++ run ∷ [])) ≡ length (concat runs) + length run
run_longer runs run = ap length (run_more runs run) ∙ length-append (concat runs) run
