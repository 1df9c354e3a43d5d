use Rattle.std.proofs.Common.{arith, ◌+◌}
use Rattle.fixed_math.proofs.Root.{isqrt_is, root_below}
use Rattle.lanes.proofs.Roots.{room_of_square}
use Rattle.lanes.proofs.root.settled.Goals as goal

pub returns-then-lies_within-clause-value : goal.returns-then-lies_within-clause-value
returns-then-lies_within-clause-value c =
    let room = room_of_square c.args.r c.requires in
    let within = c.lies_within.ensures.yes c.if-lies_within.true in
    isqrt_is c.args.n c.args.r (omega arith) (omega (arith, within.0)) (omega (arith, within.1))

pub returns-then-n-square-clause-value : goal.returns-then-n-square-clause-value
returns-then-n-square-clause-value c =
    let room = room_of_square c.args.r c.requires in
    let past = c.lies_within.ensures.no c.if-lies_within.false c.if-square-n.true in
    let near = c.if-n-square.true in
    isqrt_is c.args.n (c.args.r + 1) (omega arith) (omega (arith, past)) (omega (arith, past, near))

pub returns-then-square-n-2-clause-value : goal.returns-then-square-n-2-clause-value
returns-then-square-n-2-clause-value c = root_below c.args.n c.args.r (omega arith) (omega arith) (omega arith)
