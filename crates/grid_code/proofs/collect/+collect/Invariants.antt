use Rattle.std.proofs.Common.{◌+◌, ◌*◌, map}
use Rattle.grid_code.specs.Code.{end}
use Rattle.grid_code.specs.View.{with_node, block_of}
use Rattle.grid_code.proofs.Blocks.{block_size}
use Rattle.grid_code.proofs.Gathered.{Gathering}
use Rattle.grid_code.proofs.collect.+collect.Given as goal

abbrev pub decreases-collect : goal.decreases-collect
decreases-collect l = 2 * block_size (block_of l.nodes.now) + 1

abbrev pub decreases-collect_node : goal.decreases-collect_node
decreases-collect_node l = 2 * block_size (with_node l.node.now end)

abbrev pub invariant-collect-loop-node : goal.invariant-collect-loop-node
invariant-collect-loop-node l = Gathering l.nodes l.node-index (map (λ t. t.now) l.initial.texts.items) (map (λ t. t.now) l.texts.items)
