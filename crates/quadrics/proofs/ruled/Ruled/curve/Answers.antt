use Rattle.std.proofs.Common.{refl}
use Rattle.patches.proofs.Isolines.{by_axis}
use Rattle.quadrics.proofs.QuadricCurves.{ruled_curve, renamed_ruled}
use Rattle.quadrics.proofs.ruled.Ruled.curve.Goals as goal

pub returns : goal.returns
returns c =
    renamed_ruled _ _ _ _ _ c.self.view_is c.numerator-v.ensures.value
    (ruled_curve _ c.self.inside.points c.numerator-v.result c.off_pole-off.result c.numerator-v.ensures.bound c.off_pole-off.ensures.bound c.off_pole-off.ensures.value c.self.invariant
    refl refl refl
    (by_axis _ c.coordinate.ensures.place c.coordinate-2.ensures.place c.coordinate-3.ensures.place)
    (by_axis _ c.coordinate.ensures.across c.coordinate-2.ensures.across c.coordinate-3.ensures.across)
    (by_axis _ c.coordinate.ensures.up c.coordinate-2.ensures.up c.coordinate-3.ensures.up))
