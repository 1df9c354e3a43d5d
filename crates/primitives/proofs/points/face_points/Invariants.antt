use Rattle.std.proofs.Common.{◌≡◌, map, take}
use Rattle.mesh_basis.specs.Polygons.{point}
use Rattle.primitives.proofs.points.face_points.Given as goal

abbrev pub invariant-loop-corner : goal.invariant-loop-corner
invariant-loop-corner l = l.face.items ≡ map (point l.points) (take l.corner-index l.corners)
