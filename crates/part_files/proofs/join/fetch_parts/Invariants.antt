use Rattle.std.proofs.Common.{◌≡◌, ◌≤◌, ◌+◌, length, Ok}
use Rattle.outside.specs.Causes.{Told}
use Rattle.outside.specs.Asked.{AsksAll}
use Rattle.part_files.specs.Parts.{first_parts, asked_parts, total_length, most_part_bytes}
use Rattle.part_files.proofs.join.fetch_parts.Given as goal

abbrev pub invariant-loop-part : goal.invariant-loop-part
invariant-loop-part g l = record {
  held : g.L.Library.held l.library ≡ g.L.Library.held l.initial.library;
  read : Told (g.L.Library.held l.initial.library) (λ files. first_parts files l.name l.part ≡ Ok l.texts.items);
  count : length l.texts.items ≡ l.part;
  room : l.room + total_length l.texts.items ≡ most_part_bytes;
  asked : Told (g.L.Library.held l.initial.library) (λ files. AsksAll (asked_parts files l.name l.part) (g.L.Library.asked l.initial.library) (g.L.Library.asked l.library));
  later : g.L.Library.faults l.initial.library ≤ g.L.Library.faults l.library;
}
