use Rattle.std.proofs.Common.{◌≡◌, ◌∙◌, ap, sym, [], ◌∷◌, ◌^◌}
use Rattle.fixed_math.specs.Blossom.{denominator}
use Rattle.patches.specs.Nets.{blossom_point}
use Rattle.patches.specs.BoxLaws.{bilinear_point-blossom}
use Rattle.patches.proofs.bilinear.BilinearSurface.point.Goals as goal

pub returns-clause-value : goal.returns-clause-value
returns-clause-value c =
    let e : c.point_at.result ≡ blossom_point 2 (denominator ^ 2) c.args.self.now (c.args.u ∷ []) (c.args.v ∷ []) =
    c.point_at.ensures.value
    ∙ ap (λ ps. blossom_point 2 (denominator ^ 2) ps (c.numerator.result ∷ []) (c.numerator-2.result ∷ [])) c.self.view_is
    ∙ ap (λ u. blossom_point 2 (denominator ^ 2) c.args.self.now (u ∷ []) (c.numerator-2.result ∷ [])) c.numerator.ensures.value
    ∙ ap (λ v. blossom_point 2 (denominator ^ 2) c.args.self.now (c.args.u ∷ []) (v ∷ [])) c.numerator-2.ensures.value in
    e ∙ sym (bilinear_point-blossom c.args.self.now c.args.u c.args.v)
