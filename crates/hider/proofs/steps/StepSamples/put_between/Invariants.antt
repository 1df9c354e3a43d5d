use Rattle.std.proofs.Common.{◌*◌, ◌≤◌}
use Rattle.hider.specs.Tiles.{HaveKept}
use Rattle.hider.proofs.StepPuts.{StepDone}
use Rattle.hider.specs.Steps.{count_in}
use Rattle.hider.proofs.steps.StepSamples.put_between.Given as goal

abbrev pub invariant-loop-at : goal.invariant-loop-at
invariant-loop-at g l = record {
  low : count_in l.places.grid l.self.step (l.from * (l.places.grid.xs * l.places.grid.ys)) ≤ l.at;
  others : HaveKept (l.from * (l.places.grid.xs * l.places.grid.ys)) (l.to * (l.places.grid.xs * l.places.grid.ys)) l.initial.lists l.lists;
  done : StepDone l.places.grid l.self.step (l.from * (l.places.grid.xs * l.places.grid.ys)) (g.S.Showing.shown l.shown) l.at l.initial.lists l.lists;
}
