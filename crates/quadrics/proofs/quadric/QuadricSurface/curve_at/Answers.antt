use Rattle.std.proofs.Common.{sym, subst, IfSome}
use Rattle.patches.specs.Curves.{IsCurve}
use Rattle.quadrics.specs.Quadrics.{quadric_point, quadric_du, quadric_dv}
use Rattle.quadrics.proofs.quadric.QuadricSurface.curve_at.Goals as goal

pub returns-in-Round : goal.returns-in-Round
returns-in-Round c =
    subst (λ s. IfSome c.curve_at.result (λ k. IsCurve k (λ u. quadric_point s u c.args.v) (λ u. quadric_du s u c.args.v) (λ u. quadric_dv s u c.args.v))) (sym c.in-Round.is) c.curve_at.ensures

pub returns-in-Ruled : goal.returns-in-Ruled
returns-in-Ruled c =
    subst (λ s. IfSome c.curve_at-in-Ruled.result (λ k. IsCurve k (λ u. quadric_point s u c.args.v) (λ u. quadric_du s u c.args.v) (λ u. quadric_dv s u c.args.v))) (sym c.in-Ruled.is) c.curve_at-in-Ruled.ensures
