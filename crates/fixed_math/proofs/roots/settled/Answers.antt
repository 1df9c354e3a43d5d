use Rattle.std.proofs.Common.{arith}
use Rattle.fixed_math.proofs.Root.{root_below}
use Rattle.fixed_math.proofs.roots.settled.Goals as goal

pub returns-then-square-n-2-clause-value : goal.returns-then-square-n-2-clause-value
returns-then-square-n-2-clause-value c = root_below c.args.n c.args.r (omega arith) (omega arith) (omega arith)
