use Rattle.mesh_basis.specs.Polygons.{piece_of}
use Rattle.mesh_basis.proofs.Runs.{list_next}
use Rattle.mesh_basis.proofs.polygons.pieces_of.Goals as goal

pub loop-i-preserved : goal.loop-i-preserved
loop-i-preserved c = list_next (piece_of c.args.points.now) c.loop-i.i c.loop-i.pieces.items _ c.piece_of.result c.in_ok-push.ensures.items c.piece_of.ensures c.loop-i.invariant
