use Rattle.std.proofs.Common.{◌≡◌, ◌++◌, drop}
use Rattle.grid_code.specs.View.{block_of}
use Rattle.mask_codegen.specs.Collected.{registers_of}
use Rattle.mask_codegen.proofs.named.+named.Given as goal

abbrev pub invariant-name_all-loop-node : goal.invariant-name_all-loop-node
invariant-name_all-loop-node l = l.seen.items ++ registers_of (block_of (drop l.node-index l.nodes)) ≡ l.initial.seen.items ++ registers_of (block_of l.nodes)
