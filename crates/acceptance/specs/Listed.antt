-- Names of textures that are listed, each once, and what look-ups name by the places of these names.
use Rattle.std.specs.Prelude.{◌≡◌, ℕ, not, List, ◌++◌, filter, map, slice_get, Option, Some, None, option_map, Result, OnOk, IfOk}
use Rattle.fixed_math.specs.declared.memory.NoMemory.{NoMemory}
use Rattle.acceptance.specs.declared.textures.Listed.{Listed}
use Rattle.acceptance.specs.Shaders.{distinct}
use Rattle.acceptance.specs.Textures.{some_name, is_some_name}
use Rattle.acceptance.specs.Reading.{is_among, with_once}

-- those of these names that aren't among the others
abbrev pub others : List (List ℕ) → List (List ℕ) → List (List ℕ)
others done names = filter (λ n. not (is_among n done)) names

-- the names that are listed, and behind them those of these names that aren't among them, each once, without the empty one
abbrev pub listed_with : List (List ℕ) → List (List ℕ) → List (List ℕ)
listed_with done names = done ++ others done (distinct (filter is_some_name names))

-- with a name, where there is one
abbrev pub with_some : List (List ℕ) → Option (List ℕ) → List (List ℕ)
with_some done None = done
with_some done (Some name) = with_once done name

-- an entry is the place of that name, or none where there is no name
abbrev pub IsAt : List (List ℕ) → Option (List ℕ) → Option ℕ → Type 0
IsAt listed name entry = option_map (slice_get listed) entry ≡ option_map (λ n. Some n) name

-- each entry is the place of its name, or none where that is empty
abbrev pub AreAt : List (List ℕ) → List (List ℕ) → List (Option ℕ) → Type 0
AreAt listed names entries = map (option_map (slice_get listed)) entries ≡ map (λ n. option_map (λ m. Some m) (some_name n)) names

-- the table has the names that are listed
abbrev pub HasTable : Listed → Type 0
HasTable l = l.table ≡ map (λ t. t.now) l.names.items

-- a name is listed, where there is one, and answered by its place
pub record ListsSome (old new : Listed) (name : Option (List ℕ)) (result : Result (Option ℕ) NoMemory) : Type 0 where
  pub table : OnOk result (HasTable new)
  pub names : OnOk result (new.table ≡ with_some old.table name)
  pub entry : IfOk result (λ entry. IsAt new.table name entry)

-- these names are listed, and answered by their places
pub record ListsAll (old new : Listed) (named : List (List ℕ)) (result : Result (List (Option ℕ)) NoMemory) : Type 0 where
  pub table : OnOk result (HasTable new)
  pub names : OnOk result (new.table ≡ listed_with old.table named)
  pub entries : IfOk result (λ es. AreAt new.table named es)
