use Rattle.std.proofs.Common.{◌+◌, ◌*◌}
use Rattle.hider.specs.Steps.{AreFirstOfStep, AreStarts}
use Rattle.hider.proofs.steps.StepSamples.new.Given as goal

abbrev pub invariant-loop-pixel : goal.invariant-loop-pixel
invariant-loop-pixel l = record {
  numbers : AreFirstOfStep l.grid l.step (l.pixel * (l.grid.xs * l.grid.ys)) l.numbers.items;
  starts : AreStarts l.grid l.step (l.pixel + 1) l.starts.items;
}
