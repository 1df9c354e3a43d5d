use Rattle.std.proofs.Common.{rules, ◌≡◌, true, sym}
use Rattle.fixed_math.specs.Unit.{fits_at}
use Rattle.fixed_math.proofs.Units.{shift_for_is}
use Rattle.fixed_math.proofs.direction.shift_for.Goals as goal

pub returns-clause-value : goal.returns-clause-value
returns-clause-value c =
    let holds : fits_at c.args.x c.args.y c.args.z c.loop-k.k ≡ true = search (rules, sym c.fits_at.ensures) in
    shift_for_is c.args.x c.args.y c.args.z c.loop-k.k c.loop-k.invariant.bound holds c.loop-k.invariant.below
