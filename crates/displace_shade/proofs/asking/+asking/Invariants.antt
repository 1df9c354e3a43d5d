use Rattle.std.proofs.Common.{◌≡◌, drop}
use Rattle.grid_code.specs.View.{block_of}
use Rattle.displace_shade.specs.Unlit.{asks_lights}
use Rattle.displace_shade.proofs.asking.+asking.Given as goal

abbrev pub invariant-asks_lights-loop-node : goal.invariant-asks_lights-loop-node
invariant-asks_lights-loop-node l = asks_lights (block_of (drop l.node-index l.nodes)) ≡ asks_lights (block_of l.nodes)
