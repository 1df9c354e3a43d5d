-- The names that were asked for.
use Rattle.std.specs.Prelude.{◌≡◌, ℕ, List, ◌++◌, take, Option, option_map}

-- these names were asked for in this order, where the library tells
abbrev pub AsksAll : List (List ℕ) → Option (List (List ℕ)) → Option (List (List ℕ)) → Type 0
AsksAll names old new = new ≡ option_map (λ asked. asked ++ names) old

-- some first names of these were asked for
abbrev pub AsksFront : List (List ℕ) → Option (List (List ℕ)) → Option (List (List ℕ)) → Type 0
AsksFront names old new = (n : ℕ) × AsksAll (take n names) old new
