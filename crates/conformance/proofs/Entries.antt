-- The lines of a sink's entries, one after another.
use Rattle.std.proofs.Common.{◌≡◌, sym, ◌∙◌, ap, ℕ, ◌+◌, List, [], ◌∷◌, ◌++◌, take, Some}
use Rattle.std.specs.Prelude.{slice_get}
use Rattle.std.specs.List.{flat_map}
use Rattle.std.proofs.lemmas.List.{take_more, flat_map_more}
use Rattle.std.proofs.lemmas.Option.{get_or_from_slice_get, slice_get_within}

-- the line of the next entry behind those before it
pub next_line : {A : Type 0} (f : A → List ℕ) (ws : List A) (n : ℕ) (w : A) (before : List ℕ) → slice_get ws n ≡ Some w → (before ++ flat_map f (take n ws)) ++ f w ≡ before ++ flat_map f (take (n + 1) ws)
next_line f ws n w before here =
    let at : take (n + 1) ws ≡ take n ws ++ (w ∷ []) = take_more ws n w (slice_get_within ws n w here) ∙ ap (λ v. take n ws ++ (v ∷ [])) (get_or_from_slice_get ws n w w here) in
    flat_map_more f before (take n ws) w ∙ ap (λ l. before ++ flat_map f l) (sym at)

-- one line more, added to the lines before it
pub added_line : {A : Type 0} (f : A → List ℕ) (ws : List A) (n : ℕ) (w : A) (before old new line : List ℕ) → old ≡ before ++ flat_map f (take n ws) → new ≡ old ++ line → line ≡ f w → slice_get ws n ≡ Some w → new ≡ before ++ flat_map f (take (n + 1) ws)
added_line f ws n w before old new line held added is here =
    added ∙ ap (λ l. l ++ line) held ∙ ap (λ l. (before ++ flat_map f (take n ws)) ++ l) is ∙ next_line f ws n w before here
