use Rattle.std.proofs.Common.{◌≡◌, ◌≤◌, ◌*◌, ◌^◌}
use Rattle.bound_split.specs.Lengths.{line_length}
use Rattle.bound_split.proofs.lengths.line_length.Given as goal

abbrev pub invariant-loop-step : goal.invariant-loop-step
invariant-loop-step l = record {
  so_far : l.total ≡ line_length l.places l.start l.stride l.step;
  small : l.total ≤ l.step * 2 ^ 32;
}
