use Rattle.std.proofs.Common.{◌∙◌, ◌*◌, ap, arith}
use Rattle.std.specs.Prelude.{min}
use Rattle.grid_registers.proofs.LookUps.{far_most, ways_alike}
use Rattle.grid_registers.proofs.look_ups.ways.Goals as goal

pub overflow_mul-result : goal.overflow_mul-result
overflow_mul-result c =
    let m = far_most c.args.side c.args.far c.apart.result c.requires.side c.requires.far in
    let e = ap (λ k. k * c.args.side) c.min.ensures in
    omega (arith, m, e)

pub returns-clause-value : goal.returns-clause-value
returns-clause-value c =
    ap (λ k. min (k * c.args.side) 134217729) c.min.ensures ∙ ways_alike c.args.side c.args.far c.args.x c.args.y c.apart.result c.requires.far c.apart.ensures

pub returns-clause-bound : goal.returns-clause-bound
returns-clause-bound c =
    let m = far_most c.args.side c.args.far c.apart.result c.requires.side c.requires.far in
    let e = ap (λ k. k * c.args.side) c.min.ensures in
    omega (arith, m, e)
