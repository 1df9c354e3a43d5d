use Rattle.std.proofs.Common.{◌≡◌, length}
use Rattle.hider.proofs.Passages.{AreStepsPassed}
use Rattle.hider.proofs.passing.passed_by.Given as goal

abbrev pub invariant-loop-step : goal.invariant-loop-step
invariant-loop-step l = record {
  long : length l.passed ≡ 8;
  each : AreStepsPassed l.camera l.round l.step l.passed;
}
