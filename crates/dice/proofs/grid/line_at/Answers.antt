use Rattle.std.proofs.Common.{arith, ◌-◌, ◌+◌}
use Rattle.dice.proofs.Grids.{shl_is, line_in}
use Rattle.dice.proofs.grid.line_at.Goals as goal

pub overflow_mul-i-2 : goal.overflow_mul-i-2
overflow_mul-i-2 c =
    rw (shl_is c.args.p (omega arith), shl_is (12 - (c.args.a + c.args.p)) (omega arith))
    (omega (arith, line_in c.args.a c.args.i c.args.p c.args.k c.requires.depth c.requires.place c.requires.cells c.requires.line))

pub new-requires : goal.new-requires
new-requires c =
    rw (shl_is c.args.p (omega arith), shl_is (12 - (c.args.a + c.args.p)) (omega arith))
    (line_in c.args.a c.args.i c.args.p c.args.k c.requires.depth c.requires.place c.requires.cells c.requires.line)
