use Rattle.std.proofs.Common.{◌≡◌, ◌++◌, drop, map}
use Rattle.sl_ast.specs.TreeView.{tree_of}
use Rattle.sl_look_ups.specs.Nodes.{nodes}
use Rattle.mask_codegen.specs.Compiled.{look_up_numbers}
use Rattle.mask_codegen.proofs.looks.look_up_set.Given as goal

abbrev pub invariant-loop-look_up : goal.invariant-loop-look_up
invariant-loop-look_up l = l.nodes.items ++ map (λ n. n.number) (nodes (drop l.look_up-index l.look_up-items)) ≡ look_up_numbers (tree_of l.tree)
