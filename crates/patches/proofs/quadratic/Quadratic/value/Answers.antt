use Rattle.std.proofs.Common.{◌∙◌, arith}
use Rattle.fixed_math.proofs.Fits.{read_back}
use Rattle.patches.proofs.Fractions.{same_wide}
use Rattle.patches.proofs.Rationals.{quadratic_by_horner}
use Rattle.patches.proofs.quadratic.Quadratic.value.Goals as goal

pub returns-clause-value : goal.returns-clause-value
returns-clause-value c =
    let q = c.args.self.now in
    let square = same_wide q.square (omega (arith, q.square_small)) in
    let linear = same_wide q.linear (omega (arith, q.linear_small)) in
    let high = rw (square, linear) at c.raised-high.ensures.bound in
    read_back c.raised.result c.raised.type_inv
    ∙ quadratic_by_horner q c.args.u c.raised-high.result c.raised.result q.constant_small q.linear_small q.square_small
    (omega (arith, high, q.square_small, q.linear_small)) c.raised-high.ensures.value c.raised.ensures.value

pub returns-clause-size : goal.returns-clause-size
returns-clause-size c =
    let q = c.args.self.now in
    let square = same_wide q.square (omega (arith, q.square_small)) in
    let linear = same_wide q.linear (omega (arith, q.linear_small)) in
    let constant = same_wide q.constant (omega (arith, q.constant_small)) in
    let high = rw (square, linear) at c.raised-high.ensures.bound in
    let last = rw (same_wide c.raised-high.result (omega (arith, high, q.square_small, q.linear_small)), constant) at c.raised.ensures.bound in
    rw (read_back c.raised.result c.raised.type_inv) (omega (arith, high, last))
