-- Entries of the table of texts.
use Rattle.std.specs.Prelude.{ℕ, List}
use Rattle.stock.specs.declared.entry.Entry.{Entry}

-- an entry as plain data
abbrev pub plain : Entry → List ℕ × List ℕ
plain e = (e.name.now, e.text.now)
