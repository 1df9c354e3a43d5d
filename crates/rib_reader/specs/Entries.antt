-- Entries of a table of names.
use Rattle.std.specs.Prelude.{ℕ, List}
use Rattle.rib_reader.specs.declared.entry.Entry.{Entry}
use Rattle.rib_reader.specs.declared.entry.Word.{Word}

-- an entry as plain data
abbrev pub plain : {A : Type 0} → Entry A → List ℕ × A
plain e = (e.0.now, e.1)

abbrev pub word_of : Word → List ℕ
word_of w = w.0.now
