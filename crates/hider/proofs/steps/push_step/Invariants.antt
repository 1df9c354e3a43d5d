use Rattle.hider.specs.Steps.{AreFirstOfStep}
use Rattle.hider.proofs.steps.push_step.Given as goal

abbrev pub invariant-loop-n : goal.invariant-loop-n
invariant-loop-n l = AreFirstOfStep l.places.grid l.step l.n l.numbers.items
