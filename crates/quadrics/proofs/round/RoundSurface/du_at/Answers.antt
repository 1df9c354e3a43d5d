use Rattle.std.proofs.Common.{◌∙◌, sym, subst, ◌^◌}
use Rattle.patches.specs.Slopes.{AreBelow}
use Rattle.quadrics.proofs.round.RoundSurface.du_at.Goals as goal

pub returns-clause-small : goal.returns-clause-small
returns-clause-small c =
    let h = c.du.ensures.within in
    subst (AreBelow (2 ^ 40)) (sym (c.du.ensures.value ∙ c.curve.ensures.across c.args.u h)) (c.curve.ensures.across_small c.args.u h)
