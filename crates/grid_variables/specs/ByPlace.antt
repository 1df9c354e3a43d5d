-- The variables of a primitive by their places.
use Rattle.std.specs.Prelude.{ℕ, zero, suc, List, Option, Some, None, slice_get}
use Rattle.scene.specs.Scene.{VariableValue}

-- the one at a place, where there is one
abbrev pub at_place : List VariableValue → Option ℕ → Option VariableValue
at_place xs None = None
at_place xs (Some k) = slice_get xs k

abbrev pub greater : ℕ → ℕ → ℕ
greater zero b = b
greater (suc a) zero = suc a
greater (suc a) (suc b) = suc (greater a b)

-- the later of two places
abbrev pub later : Option ℕ → Option ℕ → Option ℕ
later (Some a) (Some b) = Some (greater a b)
later (Some a) None = Some a
later None b = b
