use Rattle.std.proofs.Common.{◌≡◌, ◌+◌, ◌≤◌, drop, map}
use Rattle.sl_ast.specs.TypedView.{default_of}
use Rattle.sl_ast.specs.Registers as spec
use Rattle.uniform_varying.specs.Counts.{counted}
use Rattle.uniform_varying.proofs.counted.rows_defaults.Given as goal

abbrev pub invariant-loop-default : goal.invariant-loop-default
invariant-loop-default l = record {
  behind : counted (l.rows + spec.rows_defaults (map default_of (drop l.default-index l.defaults))) ≡ counted (spec.rows_defaults (map default_of l.defaults));
  small : l.rows ≤ 18446744073709551615;
}
