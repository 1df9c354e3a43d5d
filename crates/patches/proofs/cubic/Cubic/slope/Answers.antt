use Rattle.std.proofs.Common.{◌∙◌, arith, ◌*◌, ◌^◌}
use Rattle.fixed_math.proofs.Fits.{read_back}
use Rattle.patches.proofs.Fractions.{same_wide, scaled_step}
use Rattle.patches.proofs.Curves.{slope_by_horner}
use Rattle.patches.proofs.cubic.Cubic.slope.Goals as goal

pub returns-clause-value : goal.returns-clause-value
returns-clause-value c =
    let p = c.args.self.now in
    let cube = scaled_step 3 p.cube c.scaled-cube.result (2 ^ 72) (3 * 2 ^ 72) (omega arith) p.cube_small (omega arith) c.scaled-cube.ensures.value in
    let square = scaled_step 2 p.square c.scaled-square.result (2 ^ 84) (2 * 2 ^ 84) (omega arith) p.square_small (omega arith) c.scaled-square.ensures.value in
    let high = rw (same_wide c.scaled-cube.result (omega (arith, cube.1)), same_wide c.scaled-square.result (omega (arith, square.1))) at c.raised-high.ensures.bound in
    read_back c.raised.result c.raised.type_inv
    ∙ slope_by_horner p c.args.u c.scaled-cube.result c.scaled-square.result c.raised-high.result c.raised.result p.linear_small p.square_small p.cube_small
    (omega (arith, cube.1)) (omega (arith, square.1)) (omega (arith, high, cube.1, square.1))
    c.scaled-cube.ensures.value c.scaled-square.ensures.value c.raised-high.ensures.value c.raised.ensures.value
