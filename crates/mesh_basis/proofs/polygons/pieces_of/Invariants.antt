use Rattle.std.proofs.Common.{◌≡◌, map}
use Rattle.std.specs.List.{range_with_len}
use Rattle.mesh_basis.specs.Polygons.{piece_of}
use Rattle.mesh_basis.proofs.polygons.pieces_of.Given as goal

abbrev pub invariant-loop-i : goal.invariant-loop-i
invariant-loop-i l = l.pieces.items ≡ map (piece_of l.points) (range_with_len 0 l.i)
