use Rattle.std.proofs.Common.{◌≡◌, arith}
use Rattle.hider.proofs.runs.put_between.Goals as goal

pub returns-clause-others : goal.returns-clause-others
returns-clause-others g c =
    let e : c.args.to ≡ c.loop-n.n = omega arith in
    rw e c.loop-n.invariant.others
