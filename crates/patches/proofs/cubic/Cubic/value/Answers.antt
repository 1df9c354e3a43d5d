use Rattle.std.proofs.Common.{◌∙◌, arith}
use Rattle.fixed_math.proofs.Fits.{read_back}
use Rattle.patches.proofs.Fractions.{same_wide}
use Rattle.patches.proofs.Curves.{value_by_horner}
use Rattle.patches.proofs.cubic.Cubic.value.Goals as goal

pub returns-clause-value : goal.returns-clause-value
returns-clause-value c =
    let p = c.args.self.now in
    let cube = same_wide p.cube (omega (arith, p.cube_small)) in
    let square = same_wide p.square (omega (arith, p.square_small)) in
    let linear = same_wide p.linear (omega (arith, p.linear_small)) in
    let high = rw (cube, square) at c.raised-high.ensures.bound in
    let middle = rw (same_wide c.raised-high.result (omega (arith, high, p.cube_small, p.square_small)), linear) at c.raised-middle.ensures.bound in
    read_back c.raised.result c.raised.type_inv
    ∙ value_by_horner p c.args.u c.raised-high.result c.raised-middle.result c.raised.result p.constant_small p.linear_small p.square_small p.cube_small
    (omega (arith, high, p.cube_small, p.square_small)) (omega (arith, high, middle, p.cube_small, p.square_small, p.linear_small))
    c.raised-high.ensures.value c.raised-middle.ensures.value c.raised.ensures.value
