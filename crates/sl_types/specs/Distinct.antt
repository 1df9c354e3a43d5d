-- Names of which each stands once, as a truth value: whoever keeps a tree can keep that of its parameters.
use Rattle.std.specs.Prelude.{◌≡◌, refl, ℕ, Bool, true, false, ◌&&◌, is_none, List, [], ◌∷◌, codes}
use Rattle.fixed_math.specs.Names.{last_place}

abbrev pub are_distinct : List (List ℕ) → Bool
are_distinct [] = true
are_distinct (name ∷ names) = is_none (last_place name names) && are_distinct names

-- worked values
two_names : are_distinct (codes "Ka" ∷ codes "Kd" ∷ []) ≡ true
two_names = refl

one_name_twice : are_distinct (codes "Ka" ∷ codes "Kd" ∷ codes "Ka" ∷ []) ≡ false
one_name_twice = refl
