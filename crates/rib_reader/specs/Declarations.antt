-- The declarations of names and their types, one by one.
use Rattle.std.specs.Prelude.{ℕ, List, [], ◌∷◌, Option, Some, None, slice_get}
use Rattle.scene.specs.declared.params.Class.{Class}
use Rattle.scene.specs.declared.params.Kind.{Kind}
use Rattle.rib_reader.specs.declared.declared.Declared.{Declared}
use Rattle.rib_reader.specs.Words.{with_type}

-- declarations as names and types one by one
abbrev pub declared_in : List (List ℕ) → List (Class × Kind) → List Declared
declared_in (n ∷ ns) (t ∷ ts) = with_type n t ∷ declared_in ns ts
declared_in _ _ = []

-- the type at a place, where a place is told
abbrev pub type_at : List (Class × Kind) → Option ℕ → Option (Class × Kind)
type_at ts None = None
type_at ts (Some place) = slice_get ts place
