use Rattle.std.proofs.Common.{◌≡◌, drop}
use Rattle.std.specs.List.{list_any}
use Rattle.sl_ast.specs.TreeView.{tree_of}
use Rattle.acceptance.specs.RequestFit.{is_undeclared}
use Rattle.acceptance.proofs.request_fit.is_any_undeclared.Given as goal

abbrev pub invariant-loop-param : goal.invariant-loop-param
invariant-loop-param l = list_any (is_undeclared (tree_of l.tree).params) (drop l.param-index l.params) ≡ list_any (is_undeclared (tree_of l.tree).params) l.params
