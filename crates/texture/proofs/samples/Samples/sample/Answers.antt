use Rattle.std.proofs.Common.{◌∙◌, ap, ◌+◌, ◌*◌, min}
use Rattle.texture.specs.Images.{number_in}
use Rattle.texture.specs.Pyramid.{sample}
use Rattle.texture.proofs.Stored.{sample_stored}
use Rattle.texture.proofs.samples.Samples.sample.Goals as goal

pub returns-clause-value : goal.returns-clause-value
returns-clause-value c =
    let s = c.self.inside in
    c.min.ensures ∙ ap (λ n. min n c.self.inside.most) (c.number_at.ensures ∙ ap (λ bs. number_in c.self.inside.most bs (3 * (c.self.inside.width * c.args.y + c.args.x) + c.args.c)) c.as_slice.ensures.value)
    ∙ sample_stored s.width s.height s.most s.bytes.items c.args.c c.args.x c.args.y c.requires c.if-x-self.false c.if-y-self.false
    ∙ ap (λ p. sample p c.args.c c.args.x c.args.y) c.self.view_is
