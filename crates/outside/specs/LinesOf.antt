-- What the fields of notes in memory hold.
use Rattle.std.specs.Prelude.{◌+◌, ◌≡◌, ◌≤◌, length, vec_capacity}
use Rattle.outside.specs.HeldLines.{HeldLines}
use Rattle.outside.specs.Marks.{length_in, lines_in}
use Rattle.outside.specs.declared.memory_notes.MemoryNotes.TheInside.{Inside}

abbrev pub lines_of : Inside → HeldLines
lines_of n = record { lines = lines_in n.store.items n.marks.items n.blank; room = n.left; log = n.calls }

-- the marks take the whole store, the room that is left is reserved, and the lines are counted
pub record IsKept (n : Inside) : Type 0 where
  pub stored : length_in n.marks.items ≡ length n.store.items
  pub store_fits : length n.store.items + n.left ≤ vec_capacity n.store
  pub marks_fit : length n.marks.items + n.left ≤ vec_capacity n.marks
  pub counted : n.count ≡ length (lines_in n.store.items n.marks.items n.blank)
