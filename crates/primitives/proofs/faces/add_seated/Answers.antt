use Rattle.std.proofs.Common.{◌<◌, ◌∙◌, ap, sym, subst, ◌++◌, [], ◌∷◌, Some, All, length}
use Rattle.patches.specs.declared.patch.Patch.{Patch}
use Rattle.quadrics.specs.declared.any_patch.AnyPatch.TheVariants.{Plain}
use Rattle.mesh_basis.specs.Polygons.{piece_of, piece_count}
use Rattle.scene.specs.declared.seat.Seat.{Seat}
use Rattle.scene.specs.Seats.{IsThere}
use Rattle.primitives.specs.Variables.{face_seat}
use Rattle.primitives.specs.Patches.{PatchValue, patch_with}
use Rattle.primitives.proofs.Seating.{piece_next, piece_end}
use Rattle.primitives.proofs.faces.add_seated.Goals as goal

pub loop-i-preserved : goal.loop-i-preserved
loop-i-preserved c =
    let params = c.args.variables.now in
    let flat = Some c.args.flat.now in
    let face = c.args.face.now in
    let seats = face_seat face.index face.first face.points.now in
    let n = piece_count (length c.args.points.now) in
    let done = c.loop-i.all.items in
    piece_next (piece_of c.args.points.now) params flat seats c.loop-i.i n done c.push.new.self.items _ c.loop-i-test.true
    (c.in_ok-push.ensures.items ∙ ap (λ (x : PatchValue). done ++ x ∷ [])
    (c.in_ok-placed.ensures ∙ ap (λ (seat : Seat). patch_with params flat seat (Plain c.piece_of-patch.result)) c.face_seat-seat.ensures.value
    ∙ ap (λ (p : Patch). patch_with params flat (seats c.loop-i.i) (Plain p)) c.piece_of-patch.ensures))
    c.loop-i.invariant

pub returns : goal.returns
returns c =
    let params = c.args.variables.now in
    let face = c.args.face.now in
    let seats = face_seat face.index face.first face.points.now in
    piece_end (piece_of c.args.points.now) params (Some c.args.flat.now) seats c.loop-i.i (piece_count (length c.args.points.now)) c.loop-i.all.items _ c.loop-i-test.false c.loop-i.invariant

pub patch_with-requires-clause-there : goal.patch_with-requires-clause-there
patch_with-requires-clause-there c =
    let face = c.args.face.now in
    let few : c.loop-i.i < piece_count (length face.points.now) = subst (λ n. c.loop-i.i < piece_count n) (sym c.requires.same) c.loop-i-test.true in
    subst (λ seat. All (IsThere seat) c.args.variables.now) (sym c.face_seat-seat.ensures.value) (c.requires.there c.loop-i.i few)
