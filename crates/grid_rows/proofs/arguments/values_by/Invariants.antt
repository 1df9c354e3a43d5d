use Rattle.std.proofs.Common.{◌≡◌, ◌++◌, true, drop, map}
use Rattle.sl_ast.specs.TypedView.{local_of}
use Rattle.grid_variables.specs.Variables.{values_at}
use Rattle.grid_rows.specs.Rows.{values_of}
use Rattle.grid_rows.proofs.arguments.values_by.Given as goal

abbrev pub invariant-loop-k : goal.invariant-loop-k
invariant-loop-k l = values_of true l.params (values_at l.leaf (map local_of l.names) l.values 0) ≡ l.given.items ++ values_of true (drop l.k l.params) (values_at l.leaf (drop l.k (map local_of l.names)) (drop l.k l.values) 0)
