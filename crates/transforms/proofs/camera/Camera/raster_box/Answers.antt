use Rattle.std.proofs.Common.{◌∙◌, sym, unsigned_abs}
use Rattle.fixed_math.specs.declared.vec3.Axis.TheVariants.{Z}
use Rattle.transforms.specs.Field.{left, right, bottom, top, scale_of}
use Rattle.transforms.specs.Raster.{clamped, x_place, y_place}
use Rattle.transforms.proofs.Between.{holds_places, later}
use Rattle.transforms.proofs.Pairs.{box_of_eight, least_read, greatest_read, four_places}
use Rattle.transforms.proofs.camera.Camera.raster_box.Goals as goal

pub sides-requires-2 : goal.sides-requires-2
sides-requires-2 c = later c.args.self.now.near c.args.lo.z c.args.hi.z c.requires.near (c.requires.ordered Z)

pub levels-requires-2 : goal.levels-requires-2
levels-requires-2 c = later c.args.self.now.near c.args.lo.z c.args.hi.z c.requires.near (c.requires.ordered Z)

pub returns-clause-holds : goal.returns-clause-holds
returns-clause-holds c = holds_places c.args.self.now c.recall.ensures c.args.lo c.args.hi c.requires.near

pub returns-clause-value : goal.returns-clause-value
returns-clause-value c =
    let v = c.args.self.now in
    let lo = c.args.lo in
    let hi = c.args.hi in
    let near = unsigned_abs lo.z in
    let far = unsigned_abs hi.z in
    let a = x_place (scale_of v) v.width (left v) (right v) lo.x near in
    let b = x_place (scale_of v) v.width (left v) (right v) hi.x near in
    let d = x_place (scale_of v) v.width (left v) (right v) lo.x far in
    let e = x_place (scale_of v) v.width (left v) (right v) hi.x far in
    let f = y_place (scale_of v) v.height (bottom v) (top v) lo.y near in
    let g = y_place (scale_of v) v.height (bottom v) (top v) hi.y near in
    let h = y_place (scale_of v) v.height (bottom v) (top v) lo.y far in
    let i = y_place (scale_of v) v.height (bottom v) (top v) hi.y far in
    four_places _ _ _ _ _ _ _ _
    (least_read c.least.result c.sides.result c.sides-2.result a b d e c.least.type_inv c.least.ensures c.sides.ensures c.sides-2.ensures)
    (least_read c.least-2.result c.levels.result c.levels-2.result f g h i c.least-2.type_inv c.least-2.ensures c.levels.ensures c.levels-2.ensures)
    (greatest_read c.greatest.result c.sides.result c.sides-2.result a b d e c.greatest.type_inv c.greatest.ensures c.sides.ensures c.sides-2.ensures)
    (greatest_read c.greatest-2.result c.levels.result c.levels-2.result f g h i c.greatest-2.type_inv c.greatest-2.ensures c.levels.ensures c.levels-2.ensures)
    ∙ sym (box_of_eight (clamped a) (clamped b) (clamped d) (clamped e) (clamped f) (clamped g) (clamped h) (clamped i))
