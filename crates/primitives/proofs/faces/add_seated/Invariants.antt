use Rattle.std.proofs.Common.{◌≡◌, ◌-◌, ◌++◌, length, map, Some}
use Rattle.std.specs.List.{range_with_len}
use Rattle.quadrics.specs.declared.any_patch.AnyPatch.TheVariants.{Plain}
use Rattle.mesh_basis.specs.Polygons.{piece_count, piece_of, pieces_of}
use Rattle.primitives.specs.Variables.{face_seat}
use Rattle.primitives.specs.Patches.{seated}
use Rattle.primitives.proofs.faces.add_seated.Given as goal

abbrev pub invariant-loop-i : goal.invariant-loop-i
invariant-loop-i l =
    let n = piece_count (length l.points) in
    let flat = Some l.flat in
    let seats = face_seat l.face.index l.face.first l.face.points.now in
    l.all.items ++ seated Plain l.variables flat seats l.i (map (piece_of l.points) (range_with_len l.i (n - l.i))) ≡ l.initial.all.items ++ seated Plain l.variables flat seats 0 (pieces_of l.points)
