use Rattle.std.proofs.Common.{arith}
use Rattle.grid_code.proofs.Found.{found}
use Rattle.grid_code.proofs.register_set.RegisterSet.index.Goals as goal

pub returns : goal.returns
returns c = grind (arith, found c.args.self.now c.args.shape c.args.number c.of_shape.result.now c.binary_search.result c.of_shape.ensures c.binary_search.ensures.position, c.ok.ensures.value)
