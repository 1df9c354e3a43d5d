use Rattle.std.proofs.Common.{◌∙◌, sym, subst, ◌^◌}
use Rattle.patches.specs.Slopes.{AreBelow}
use Rattle.quadrics.proofs.round.RoundSurface.dv_at.Goals as goal

pub returns-clause-small : goal.returns-clause-small
returns-clause-small c =
    let h = c.dv.ensures.within in
    subst (AreBelow (2 ^ 40)) (sym (c.dv.ensures.value ∙ c.curve.ensures.up c.args.u h)) (c.curve.ensures.up_small c.args.u h)
