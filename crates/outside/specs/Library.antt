-- What a fetch does.
use Rattle.std.specs.Prelude.{◌≡◌, ℕ, ◌+◌, ◌≤◌, List, [], ◌∷◌, ◌++◌, length, Option, Some, None, ◌⊎◌, option_map}
use Rattle.std.specs.Ordering.{nat_cmp}
use Rattle.std.specs.Cmp.Lexicographic.{slice_cmp}
use Rattle.std.specs.FinMap as map
use Rattle.outside.specs.Causes.{Told}
use Rattle.outside.specs.declared.library.Fetch.{Fetch}
use Rattle.outside.specs.declared.library.Fetch.TheVariants.{Whole, Missing, TooLong, Failed, NoMemory}

-- files by their names, bytes by bytes
abbrev pub Files : Type 0
Files = map.FinMap (slice_cmp nat_cmp) (List ℕ)

-- what is held under a name
abbrev pub held_as : Files → List ℕ → Option (List ℕ)
held_as files name = map.get files name

-- a list with one more item, where it is told
abbrev pub also : {A : Type 0} → A → Option (List A) → Option (List A)
also x told = option_map (λ xs. xs ++ x ∷ []) told

-- a fetch asks for its name, but may not keep it where memory runs out
abbrev pub Asks : Fetch → List ℕ → Option (List (List ℕ)) → Option (List (List ℕ)) → Type 0
Asks NoMemory name old new = (new ≡ old) ⊎ (new ≡ also name old)
Asks Whole name old new = new ≡ also name old
Asks Missing name old new = new ≡ also name old
Asks TooLong name old new = new ≡ also name old
Asks Failed name old new = new ≡ also name old

-- how many bytes come
abbrev pub IsOfSize : Fetch → ℕ → ℕ → Type 0
IsOfSize Whole limit size = size ≤ limit
IsOfSize TooLong limit size = size ≡ limit + 1
IsOfSize Missing limit size = size ≡ 0
IsOfSize Failed limit size = Unit {0}
IsOfSize NoMemory limit size = Unit {0}

-- these bytes are a front of what is held, and none where nothing is
abbrev pub IsFrontOf : List ℕ → Option (List ℕ) → Type 0
IsFrontOf bytes None = bytes ≡ []
IsFrontOf bytes (Some whole) = (rest : List ℕ) × (whole ≡ bytes ++ rest)

-- which bytes come of what is held under the name
abbrev pub IsHeldAs : Fetch → List ℕ → Option (List ℕ) → Type 0
IsHeldAs Whole bytes held = held ≡ Some bytes
IsHeldAs Missing bytes held = held ≡ None
IsHeldAs TooLong bytes held = (rest : List ℕ) × (held ≡ Some (bytes ++ rest))
IsHeldAs Failed bytes held = IsFrontOf bytes held
IsHeldAs NoMemory bytes held = IsFrontOf bytes held

-- a fetch appends bytes, and these of what is held under the name
pub record Fetches (result : Fetch) (limit : ℕ) (held : Option Files) (name old new : List ℕ) : Type 0 where
  pub bytes : List ℕ
  pub added : new ≡ old ++ bytes
  pub size : IsOfSize result limit (length bytes)
  pub content : Told held (λ files. IsHeldAs result bytes (held_as files name))

-- so many bytes were appended, whichever they are
abbrev pub AppendsAtMost : Fetch → ℕ → List ℕ → List ℕ → Type 0
AppendsAtMost result limit old new = (bytes : List ℕ) × (new ≡ old ++ bytes) × IsOfSize result limit (length bytes)
