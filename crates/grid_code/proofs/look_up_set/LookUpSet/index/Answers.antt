use Rattle.std.proofs.Common.{arith}
use Rattle.grid_code.proofs.Found.{found_node}
use Rattle.grid_code.proofs.look_up_set.LookUpSet.index.Goals as goal

pub returns : goal.returns
returns c = grind (arith, found_node c.args.self.now c.args.node c.as_slice.result.now c.binary_search.result c.as_slice.ensures c.binary_search.ensures.position, c.ok.ensures.value)
