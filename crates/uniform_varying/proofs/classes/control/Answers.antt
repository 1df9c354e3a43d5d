use Rattle.std.proofs.Common.{length, ap, sym, ◌∙◌}
use Rattle.sl_ast.specs.TreeView.{tree_of}
use Rattle.uniform_varying.proofs.Lengths.{length_tree}
use Rattle.uniform_varying.proofs.classes.control.Goals as goal

-- src/classes.rt:45:1
pub returns-clause-counted : goal.returns-clause-counted
returns-clause-counted c = ap length c.in_ok-list.ensures ∙ length_tree (tree_of c.args.tree.now) ∙ sym c.args.tree.now.counted
