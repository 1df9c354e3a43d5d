use Rattle.std.proofs.Common.{[]}
use Rattle.std.specs.List.{cons_option}
use Rattle.hider.specs.Steps.{in_step}
use Rattle.hider.proofs.Rows.{RowsDone}
use Rattle.hider.proofs.steps.StepSamples.put_rows.Given as goal

abbrev pub invariant-loop-row : goal.invariant-loop-row
invariant-loop-row g l = RowsDone l.places.grid l.row (λ s. cons_option (in_step l.self.step (g.S.Showing.shown l.shown) s) []) l.initial.lists l.lists
