use Rattle.std.proofs.Common.{arith, sym}
use Rattle.bound_split.proofs.Sizes.{first_size}
use Rattle.bound_split.proofs.deciding.grid_size.Goals as goal

pub returns-then-length-side : goal.returns-then-length-side
returns-then-length-side c =
    sym (first_size c.args.side c.args.length c.loop-p.p (omega arith) c.loop-p.invariant (omega arith))
