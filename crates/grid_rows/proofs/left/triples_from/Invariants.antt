use Rattle.std.proofs.Common.{◌≡◌}
use Rattle.place_rows.specs.Layout.{row_length}
use Rattle.grid_variables.specs.Places.{over}
use Rattle.grid_rows.specs.Rows.{triple_in}
use Rattle.grid_rows.proofs.left.triples_from.Given as goal

abbrev pub invariant-loop-i : goal.invariant-loop-i
invariant-loop-i l = l.triples.items ≡ over l.i (triple_in l.rows (row_length l.points) l.first)
