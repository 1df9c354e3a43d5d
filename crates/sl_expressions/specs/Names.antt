-- Names with what they stand for, as data.
use Rattle.std.specs.Prelude.{ℕ, List, [], ◌∷◌, Option, Some, None, if◌then◌else◌}
use Rattle.std.specs.Str.{bytes_eq}
use Rattle.sl_expressions.specs.declared.entry.Entry.{Entry}

-- what a name stands for
abbrev pub entry_of : {A : Type 0} → List (List ℕ × A) → List ℕ → Option A
entry_of [] name = None
entry_of (e ∷ es) name = if bytes_eq e.0 name then Some e.1 else entry_of es name

-- an entry as plain data
abbrev pub plain : {A : Type 0} → Entry A → List ℕ × A
plain e = (e.name.now, e.value)
