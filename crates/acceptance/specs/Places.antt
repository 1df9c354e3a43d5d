-- The place of a name among others.
use Rattle.std.specs.Prelude.{ℕ, List, Option, Some, None}
use Rattle.fixed_math.specs.Names.{last_place}

abbrev pub place_or : Option ℕ → ℕ
place_or (Some place) = place
place_or None = 0

-- the place of a name among these, where it is
abbrev pub place_in : List (List ℕ) → List ℕ → ℕ
place_in names name = place_or (last_place name names)
