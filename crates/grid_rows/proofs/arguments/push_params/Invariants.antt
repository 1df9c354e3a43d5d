use Rattle.std.proofs.Common.{◌≡◌, ◌++◌, drop, map}
use Rattle.sl_ast.specs.TypedView.{local_of}
use Rattle.grid_rows.specs.Given.{param_rows}
use Rattle.grid_rows.proofs.arguments.push_params.Given as goal

abbrev pub invariant-loop-k : goal.invariant-loop-k
invariant-loop-k l = l.initial.rows ++ param_rows l.leaf (map local_of l.names) l.params l.values ≡ l.rows ++ param_rows l.leaf (drop l.k (map local_of l.names)) (drop l.k l.params) (drop l.k l.values)
