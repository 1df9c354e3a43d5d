use Rattle.std.proofs.Common.{sym, subst, IfSome}
use Rattle.patches.specs.Curves.{IsCurve}
use Rattle.patches.specs.Patches.{patch_point, patch_du, patch_dv}
use Rattle.patches.proofs.patch.PatchSurface.curve_at.Goals as goal

pub returns-in-Bilinear : goal.returns-in-Bilinear
returns-in-Bilinear c =
    subst (λ s. IfSome c.curve_at.result (λ k. IsCurve k (λ u. patch_point s u c.args.v) (λ u. patch_du s u c.args.v) (λ u. patch_dv s u c.args.v))) (sym c.in-Bilinear.is) c.curve_at.ensures

pub returns-in-Bicubic : goal.returns-in-Bicubic
returns-in-Bicubic c =
    subst (λ s. IfSome c.curve_at-in-Bicubic.result (λ k. IsCurve k (λ u. patch_point s u c.args.v) (λ u. patch_du s u c.args.v) (λ u. patch_dv s u c.args.v))) (sym c.in-Bicubic.is) c.curve_at-in-Bicubic.ensures
