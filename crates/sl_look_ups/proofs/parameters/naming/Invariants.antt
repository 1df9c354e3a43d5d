use Rattle.std.proofs.Common.{◌≡◌, drop}
use Rattle.sl_ast.specs.TreeView.{tree_of}
use Rattle.sl_look_ups.specs.Nodes.{nodes}
use Rattle.sl_look_ups.specs.Naming.{naming}
use Rattle.sl_look_ups.proofs.Naming.{answered}
use Rattle.sl_look_ups.proofs.parameters.naming.Given as goal

abbrev pub invariant-loop-look_up : goal.invariant-loop-look_up
invariant-loop-look_up l = answered (nodes (drop l.look_up-index l.look_up-items)) 0 l.named.items ≡ naming (tree_of l.tree)
