-- The rows of variables, one behind another.
use Rattle.std.proofs.Common.{◌≡◌, ℕ, ◌+◌, ◌<◌, ℤ, List, ◌++◌, length, get_or, drop, sym, ap, ◌∙◌, append_assoc}
use Rattle.std.proofs.lemmas.List.{drop_more}
use Rattle.sl_ast.specs.declared.kinds.Predefined.{Predefined}
use Rattle.grid_rows.specs.Given.{all_rows}

pub pushed : (f : Predefined → List ℤ) (ps : List Predefined) (k : ℕ) (d : Predefined) (rows new all : List ℤ) → k < length ps → new ≡ rows ++ f (get_or ps k d) → rows ++ all_rows f (drop k ps) ≡ all → new ++ all_rows f (drop (k + 1) ps) ≡ all
pushed f ps k d rows new all l e h =
    ap (λ q. q ++ all_rows f (drop (k + 1) ps)) e ∙ append_assoc rows (f (get_or ps k d)) (all_rows f (drop (k + 1) ps)) ∙ ap (λ q. rows ++ q) (sym (ap (all_rows f) (drop_more ps k d l))) ∙ h
