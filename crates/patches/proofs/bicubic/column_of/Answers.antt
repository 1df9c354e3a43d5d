use Rattle.std.proofs.Common.{arith, ◌+◌, ◌*◌}
use Rattle.patches.specs.Nets.{control}
use Rattle.patches.proofs.Cubics.{control_read}
use Rattle.patches.proofs.bicubic.column_of.Goals as goal

pub returns-clause-rise : goal.returns-clause-rise
returns-clause-rise c =
    let ps = c.args.points.now in
    let axis = c.args.axis in
    let k = c.args.k in
    c.column_at.ensures.rise (λ y. control 4 ps axis k y)
    (control_read ps axis k (4 * 0 + k) c.control_at-a.result c.control_at-a.ensures.bound c.control_at-a.ensures.value (omega arith))
    (control_read ps axis (4 + k) (4 * 1 + k) c.control_at-b.result c.control_at-b.ensures.bound c.control_at-b.ensures.value (omega arith))
    (control_read ps axis (8 + k) (4 * 2 + k) c.control_at-c.result c.control_at-c.ensures.bound c.control_at-c.ensures.value (omega arith))
    (control_read ps axis (12 + k) (4 * 3 + k) c.control_at-d.result c.control_at-d.ensures.bound c.control_at-d.ensures.value (omega arith))
