use Rattle.std.proofs.Common.{◌≡◌, length}
use Rattle.hider.specs.StepRows.{AreSteps}
use Rattle.hider.proofs.timed.find_steps.Given as goal

abbrev pub invariant-loop-step : goal.invariant-loop-step
invariant-loop-step l = record {
  count : length l.steps.items ≡ l.step;
  known : AreSteps l.places.grid l.steps.items;
}
