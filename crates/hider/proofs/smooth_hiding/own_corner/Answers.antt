use Rattle.std.proofs.Common.{◌<◌, length, arith}
use Rattle.hider.proofs.Smooths.{point_read}
use Rattle.hider.proofs.smooth_hiding.own_corner.Goals as goal

pub returns : goal.returns
returns c =
    let g = c.args.grid.now in
    let n = c.args.n in
    let p = c.args.point.now in
    let in_colours : n < length g.ci.now = omega (arith, c.requires, g.colours) in
    let in_opacities : n < length g.oi.now = omega (arith, c.requires, g.opacities) in
    let colour = point_read g.ci.now n c.index-grid-n.result in_colours c.index-grid-n.is in
    let opacity = point_read g.oi.now n c.index-grid-n-2.result in_opacities c.index-grid-n-2.is in
    λ t. record { place = p.place; depth = p.depth; colour = colour t; opacity = opacity t }
