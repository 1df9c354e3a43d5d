use Rattle.std.proofs.Common.{◌≡◌, drop}
use Rattle.grid_code.specs.Valid.{has_light_statement}
use Rattle.grid_code.specs.View.{block_of}
use Rattle.mask_codegen.proofs.lit.+lit.Given as goal

abbrev pub invariant-has_lights-loop-node : goal.invariant-has_lights-loop-node
invariant-has_lights-loop-node l = has_light_statement (block_of (drop l.node-index l.nodes)) ≡ has_light_statement (block_of l.nodes)
