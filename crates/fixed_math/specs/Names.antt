-- A name's place among names in the order of their declaration.
use Rattle.std.specs.Prelude.{ℕ, suc, List, [], ◌∷◌, Option, None, Some, cond, ◌≡◌, refl}
use Rattle.std.specs.Option.{option_map, option_or}
use Rattle.std.specs.Str.{bytes_eq}

-- the place of the last of this name: in the rest, one further, else at the head; where names are distinct, of the only one
abbrev pub last_place : List ℕ → List (List ℕ) → Option ℕ
last_place name [] = None
last_place name (n ∷ ns) = option_or (option_map suc (last_place name ns)) (cond (bytes_eq n name) (Some 0) None)

-- worked values
the_later_of_two : last_place (7 ∷ []) ((7 ∷ []) ∷ (8 ∷ []) ∷ (7 ∷ []) ∷ []) ≡ Some 2
the_later_of_two = refl

not_there : last_place (9 ∷ []) ((7 ∷ []) ∷ (8 ∷ []) ∷ []) ≡ None
not_there = refl
