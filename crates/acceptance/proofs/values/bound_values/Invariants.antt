use Rattle.std.proofs.Common.{◌≡◌, map}
use Rattle.std.specs.List.{range_with_len}
use Rattle.sl_ast.specs.TreeView.{tree_of}
use Rattle.acceptance.specs.Bound.{bound_value}
use Rattle.acceptance.proofs.values.bound_values.Given as goal

abbrev pub invariant-loop-index : goal.invariant-loop-index
invariant-loop-index l = l.values.items ≡ map (bound_value (tree_of l.tree) l.request) (range_with_len 0 l.index)
