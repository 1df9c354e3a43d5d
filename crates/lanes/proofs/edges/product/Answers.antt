use Rattle.std.proofs.Common.{arith, w64, FitsSigned}
use Rattle.std.proofs.lemmas.Int.{to_z-of_z, fits_signed_mul}
use Rattle.lanes.proofs.Sides.{product_bound}
use Rattle.lanes.proofs.edges.product.Goals as goal

pub returns-clause-value : goal.returns-clause-value
returns-clause-value c =
    let a : FitsSigned w64 c.args.a = c.ranges.a in
    let b : FitsSigned w64 c.args.b = c.ranges.b in
    let fits = fits_signed_mul w64 c.args.a c.args.b 536870912 536870912 c.requires.a c.requires.b (omega arith) in
    simp to_z-of_z

pub returns-clause-bound : goal.returns-clause-bound
returns-clause-bound c =
    let a : FitsSigned w64 c.args.a = c.ranges.a in
    let b : FitsSigned w64 c.args.b = c.ranges.b in
    let fits = fits_signed_mul w64 c.args.a c.args.b 536870912 536870912 c.requires.a c.requires.b (omega arith) in
    simp to_z-of_z (product_bound c.args.a c.args.b c.requires.a c.requires.b)
