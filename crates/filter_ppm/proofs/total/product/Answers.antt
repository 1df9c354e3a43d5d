use Rattle.std.proofs.Common.{arith}
use Rattle.filter_ppm.proofs.Totals.{product_read, product_size}
use Rattle.filter_ppm.proofs.total.product.Goals as goal

pub returns-clause-value : goal.returns-clause-value
returns-clause-value c = product_read c.args.w c.args.v c.requires.w c.requires.v

pub returns-clause-size : goal.returns-clause-size
returns-clause-size c =
    let e = product_read c.args.w c.args.v c.requires.w c.requires.v in
    rw e (product_size c.args.w c.args.v c.requires.v)

pub returns-clause-bound : goal.returns-clause-bound
returns-clause-bound c =
    let e = product_read c.args.w c.args.v c.requires.w c.requires.v in
    let s = product_size c.args.w c.args.v c.requires.v in
    let small = c.requires.w in
    rw e (omega (arith, s, small))
