use Rattle.std.proofs.Common.{[]}
use Rattle.std.specs.List.{cons_option}
use Rattle.hider.proofs.Rows.{RowsDone}
use Rattle.hider.proofs.near.put_rows.Given as goal

abbrev pub invariant-loop-row : goal.invariant-loop-row
invariant-loop-row g l = RowsDone l.places.grid l.row (λ s. cons_option (g.S.Showing.shown l.shown s) []) l.initial.lists l.lists
