use Rattle.std.proofs.Common.{◌≡◌, ◌≤◌, ◌++◌, ◌-◌}
use Rattle.std.specs.List.{range_with_len, flat_map}
use Rattle.stock.specs.Demo.{next_point}
use Rattle.stock.proofs.demonstration.push_points.Given as goal

abbrev pub invariant-loop-point : goal.invariant-loop-point
invariant-loop-point l = record {
  some : 1 ≤ l.point;
  text : l.text.items ≡ l.initial.text.items ++ flat_map (next_point l.patch) (range_with_len 1 (l.point - 1));
}
