use Rattle.std.proofs.Common.{◌≡◌, ◌+◌, ◌≤◌, drop}
use Rattle.sl_ast.specs.Registers as spec
use Rattle.uniform_varying.specs.Counts.{counted}
use Rattle.uniform_varying.proofs.counted.rows_of_classes.Given as goal

abbrev pub invariant-loop-uniform : goal.invariant-loop-uniform
invariant-loop-uniform l = record {
  behind : counted (l.rows + spec.rows_of_classes (drop l.uniform-index l.us)) ≡ counted (spec.rows_of_classes l.us);
  small : l.rows ≤ 18446744073709551615;
}
