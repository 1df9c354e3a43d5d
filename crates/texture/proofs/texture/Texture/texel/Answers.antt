use Rattle.std.proofs.Common.{◌∙◌, ap, subst, ◌*◌}
use Rattle.texture.specs.Images.{IsImage}
use Rattle.texture.specs.Pyramid.{inside}
use Rattle.texture.proofs.Texels.{sum_most, part_is, texel_is}
use Rattle.texture.proofs.texture.Texture.texel.Goals as goal

pub mean-red-requires-clause-part : goal.mean-red-requires-clause-part
mean-red-requires-clause-part c =
    let p = c.args.self.now in
    let whole = c.whole-whole.ensures.value ∙ ap (λ m. p.most * (inside p.width m c.args.x * inside p.height m c.args.y)) c.side_of.ensures.value in
    sum_most p c.args.l c.args.x c.args.y c.whole-whole.result whole 0 c.sums-sums.result.red (subst IsImage c.self.view_is c.recall.ensures) c.sums-sums.ensures.each.red

pub mean-green-requires-clause-part : goal.mean-green-requires-clause-part
mean-green-requires-clause-part c =
    let p = c.args.self.now in
    let whole = c.whole-whole.ensures.value ∙ ap (λ m. p.most * (inside p.width m c.args.x * inside p.height m c.args.y)) c.side_of.ensures.value in
    sum_most p c.args.l c.args.x c.args.y c.whole-whole.result whole 1 c.sums-sums.result.green (subst IsImage c.self.view_is c.recall.ensures) c.sums-sums.ensures.each.green

pub mean-blue-requires-clause-part : goal.mean-blue-requires-clause-part
mean-blue-requires-clause-part c =
    let p = c.args.self.now in
    let whole = c.whole-whole.ensures.value ∙ ap (λ m. p.most * (inside p.width m c.args.x * inside p.height m c.args.y)) c.side_of.ensures.value in
    sum_most p c.args.l c.args.x c.args.y c.whole-whole.result whole 2 c.sums-sums.result.blue (subst IsImage c.self.view_is c.recall.ensures) c.sums-sums.ensures.each.blue

pub returns : goal.returns
returns c =
    let p = c.args.self.now in
    let whole = c.whole-whole.ensures.value ∙ ap (λ m. p.most * (inside p.width m c.args.x * inside p.height m c.args.y)) c.side_of.ensures.value in
    let part = part_is p c.args.l c.args.x c.args.y c.whole-whole.result whole in
    let sums = c.sums-sums.ensures.each in
    texel_is p c.args.l c.args.x c.args.y c.mean-red.result c.mean-green.result c.mean-blue.result
    (part 0 c.sums-sums.result.red c.mean-red.result sums.red c.mean-red.ensures.value)
    (part 1 c.sums-sums.result.green c.mean-green.result sums.green c.mean-green.ensures.value)
    (part 2 c.sums-sums.result.blue c.mean-blue.result sums.blue c.mean-blue.ensures.value)
