-- A fact of each element of a list.
use Rattle.std.specs.Prelude.{List, [], ◌∷◌, ◌++◌, map}

abbrev pub Each : {A : Type 0} → (A → Type 0) → List A → Type 0
Each P [] = Unit {0}
Each P (x ∷ xs) = P x × Each P xs

-- f at each pair of an item of us and an item of vs, by rows, us fastest
abbrev pub grid : {A B : Type 0} → (A → A → B) → List A → List A → List B
grid f us [] = []
grid f us (v ∷ vs) = map (λ u. f u v) us ++ grid f us vs
