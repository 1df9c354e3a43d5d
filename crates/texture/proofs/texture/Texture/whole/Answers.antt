use Rattle.std.proofs.Common.{◌∙◌, ap, sym, subst, ◌<◌}
use Rattle.texture.specs.Images.{Image}
use Rattle.texture.specs.Pyramid.{side_at}
use Rattle.texture.proofs.Sides.{product_some}
use Rattle.texture.proofs.Tables.{inside_some}
use Rattle.texture.proofs.texture.Texture.whole.Goals as goal

pub returns-clause-some : goal.returns-clause-some
returns-clause-some c =
    let across = subst (λ p. c.args.x < side_at p c.args.m) (ap (λ (p : Image). p.width) (sym c.self.view_is) ∙ sym c.width.ensures.value) c.requires.column in
    let up = subst (λ p. c.args.y < side_at p c.args.m) (ap (λ (p : Image). p.height) (sym c.self.view_is) ∙ sym c.height.ensures.value) c.requires.row in
    product_some c.most.result c.inside-across.result c.inside-up.result c.most.ensures.some
    (subst (λ n. 0 < n) (sym c.inside-across.ensures.value) (inside_some c.width.result c.args.m c.args.x c.requires.some across))
    (subst (λ n. 0 < n) (sym c.inside-up.ensures.value) (inside_some c.height.result c.args.m c.args.y c.requires.some up))
