use Rattle.patches.proofs.Rationals.{product_most}
use Rattle.std.proofs.Common.{arith}
use Rattle.patches.proofs.rational.product.Goals as goal

pub overflow_mul-result : goal.overflow_mul-result
overflow_mul-result c = let e = product_most c.args.a c.args.b c.requires.small_a c.requires.small_b in omega (arith, e)

pub returns-clause-bound : goal.returns-clause-bound
returns-clause-bound c = product_most c.args.a c.args.b c.requires.small_a c.requires.small_b
