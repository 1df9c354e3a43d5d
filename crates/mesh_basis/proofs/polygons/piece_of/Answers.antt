use Rattle.mesh_basis.proofs.Near.{four_near, item_near}
use Rattle.mesh_basis.proofs.polygons.piece_of.Goals as goal

pub new-requires : goal.new-requires
new-requires c =
    let ps = c.args.points.now in
    let near = c.requires.near in
    let there = c.piece_corners.ensures.within in
    four_near _ _ _ _
    (item_near ps _ _ near (there 0) c.index-points-a.is) (item_near ps _ _ near (there 1) c.index-points-b.is)
    (item_near ps _ _ near (there 2) c.index-points-c.is) (item_near ps _ _ near (there 3) c.index-points-d.is)
