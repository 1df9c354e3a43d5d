use Rattle.mesh_basis.specs.Polygons.{point}
use Rattle.primitives.proofs.Runs.{one_mapped, all_mapped}
use Rattle.primitives.proofs.points.face_points.Goals as goal

pub loop-corner-preserved : goal.loop-corner-preserved
loop-corner-preserved c =
    one_mapped (point c.args.points.now) c.args.corners.now c.loop-corner.corner-index 0 c.loop-corner.face.items c.push.new.self.items c.point.result c.loop-corner-test.true
    c.point.ensures c.in_ok-push.ensures.items c.loop-corner.invariant

pub returns : goal.returns
returns c = all_mapped (point c.args.points.now) c.args.corners.now c.loop-corner.corner-index c.loop-corner.face.items c.loop-corner-test.false c.loop-corner.invariant
