use Rattle.std.proofs.Common.{◌≡◌, ◌∙◌, ap, sym, refl, false}
use Rattle.hider.specs.CellValues.{corners_when}
use Rattle.hider.specs.SeenCorners.{are_seen, points_of}
use Rattle.hider.proofs.Whens.{unseen_corners}
use Rattle.hider.proofs.moving_cell.MovingCell.put_sample.Goals as goal

pub returns-then-not-are_seen : goal.returns-then-not-are_seen
returns-then-not-are_seen g c =
    let m = c.args.self.now in
    let w = m.camera.now in
    let v = g.C.Cells.values m.cells.now in
    let s = c.args.sample.now in
    let e : are_seen w (corners_when v m.cell s.time) ≡ false = sym (ap (are_seen w) c.corners-corners.ensures) ∙ sym c.if-not-are_seen.ensures in
    let n = unseen_corners w v m.cell m.one_sided m.flip s e in
    rw n refl

pub put_points-requires-clause-seen : goal.put_points-requires-clause-seen
put_points-requires-clause-seen g c =
    let m = c.args.self.now in
    let w = m.camera.now in
    sym (ap (are_seen w) c.corners-corners.ensures) ∙ sym c.if-not-are_seen.ensures

pub put_points-requires-clause-points : goal.put_points-requires-clause-points
put_points-requires-clause-points g c =
    let w = c.args.self.now.camera.now in
    c.points_of-points.ensures ∙ ap (points_of w) c.corners-corners.ensures
