use Rattle.std.proofs.Common.{arith}
use Rattle.texture.proofs.Halving.{square_quarters}
use Rattle.texture.proofs.sums.quarters.Goals as goal

pub returns : goal.returns
returns c =
    let e = square_quarters c.args.image.now c.args.c c.args.m c.args.x c.args.y in
    rw (c.at.ensures.value, c.at-2.ensures.value, c.at-3.ensures.value, c.at-4.ensures.value) (omega (arith, e))
