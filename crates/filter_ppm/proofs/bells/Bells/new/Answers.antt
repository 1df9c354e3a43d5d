use Rattle.std.proofs.Common.{◌≤◌, ◌*◌, arith, length}
use Rattle.std.proofs.lemmas.Nat.{mul-le}
use Rattle.filter_ppm.proofs.Folded.{bells_from}
use Rattle.filter_ppm.proofs.bells.Bells.new.Goals as goal
use Rattle.scene.specs.declared.filter.Filter.TheVariants.{Gaussian}

pub returns : goal.returns
returns c = λ wx wy tx ty.
    let long = c.in_ok-weights.ensures.long in
    let most = c.side_of-rows.ensures.most in
    let wide = c.side_of-columns.result.count in
    let fits : c.side_of-rows.result.count * wide ≤ length c.args.down.now * wide = mul-le _ _ (length c.args.down.now) wide most (omega arith) in
    bells_from wx wy c.args.across.now c.args.down.now _ _ _ tx ty (c.side_of-columns.ensures.side Gaussian wx tx) (c.side_of-rows.ensures.side Gaussian wy ty) c.side_of-columns.ensures.some c.side_of-columns.ensures.most
    (omega (arith, long, fits)) c.in_ok-weights.ensures.each
