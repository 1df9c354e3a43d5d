use Rattle.std.proofs.Common.{◌∙◌, ap, to_z, of_z}
use Rattle.std.specs.Prelude.{◌-ℤ◌}
use Rattle.std.specs.Int.{w64}
use Rattle.fixed_math.specs.Edges.{owns}
use Rattle.hider.proofs.Small.{less_read, read_whole}
use Rattle.hider.proofs.edges.owns_places.Goals as goal

pub returns : goal.returns
returns c =
    let a = c.args.a in let b = c.args.b in
    let x = read_whole c.less.result c.less.type_inv ∙ less_read c.x.result c.x-2.result c.less.result b.x a.x c.x.ensures.size c.x-2.ensures.size c.less.ensures.value c.x.ensures.value c.x-2.ensures.value in
    let y = read_whole c.less-2.result c.less-2.type_inv ∙ less_read c.y.result c.y-2.result c.less-2.result b.y a.y c.y.ensures.size c.y-2.ensures.size c.less-2.ensures.value c.y.ensures.value c.y-2.ensures.value in
    c.owns_edge.ensures ∙ ap (λ d. owns d (to_z w64 (of_z w64 c.less-2.result))) x ∙ ap (λ d. owns (b.x -ℤ a.x) d) y
