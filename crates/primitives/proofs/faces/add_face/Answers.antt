use Rattle.std.proofs.Common.{◌≡◌, ◌∙◌, ap, sym, subst, ◌+◌, ◌<◌, ◌≤◌, ◌^◌, ◌++◌, true, length}
use Rattle.std.specs.Prelude.{IfOk}
use Rattle.std.proofs.lemmas.List.{length-map}
use Rattle.mesh_basis.specs.Ranges.{are_in_range}
use Rattle.mesh_basis.specs.Polygons.{point, piece_count}
use Rattle.scene.specs.Scene.{most_prims}
use Rattle.primitives.specs.Variables.{face_seat}
use Rattle.primitives.specs.Patches.{face_patches}
use Rattle.primitives.proofs.Seating.{face_near}
use Rattle.primitives.proofs.faces.add_face.Goals as goal

pub add_pieces-requires-clause-some : goal.add_pieces-requires-clause-some
add_pieces-requires-clause-some c =
    let long : length c.as_slice.result.now ≡ length c.args.face.now.points.now =
    ap length (c.as_slice.ensures ∙ c.in_ok-corners.ensures) ∙ length-map c.args.face.now.points.now (point c.args.points.now) in
    subst (λ n. 3 ≤ n) (sym long) c.requires.some

pub add_pieces-requires-clause-near : goal.add_pieces-requires-clause-near
add_pieces-requires-clause-near c =
    subst (λ ps. are_in_range ps ≡ true) (sym (c.as_slice.ensures ∙ c.in_ok-corners.ensures)) (face_near c.args.points.now c.args.face.now.points.now c.requires.near)

pub add_pieces-requires-clause-room : goal.add_pieces-requires-clause-room
add_pieces-requires-clause-room c =
    let long : length c.as_slice.result.now ≡ length c.args.face.now.points.now =
    ap length (c.as_slice.ensures ∙ c.in_ok-corners.ensures) ∙ length-map c.args.face.now.points.now (point c.args.points.now) in
    subst (λ n. piece_count n ≤ most_prims) (sym long) c.requires.room

pub add_pieces-requires-clause-same : goal.add_pieces-requires-clause-same
add_pieces-requires-clause-same c = sym (ap length (c.as_slice.ensures ∙ c.in_ok-corners.ensures) ∙ length-map c.args.face.now.points.now (point c.args.points.now))

pub add_pieces-requires-clause-few : goal.add_pieces-requires-clause-few
add_pieces-requires-clause-few c =
    let long : length c.as_slice.result.now ≡ length c.args.face.now.points.now =
    ap length (c.as_slice.ensures ∙ c.in_ok-corners.ensures) ∙ length-map c.args.face.now.points.now (point c.args.points.now) in
    subst (λ n. c.args.face.now.first + n < 2 ^ 64) (sym long) c.requires.few

pub returns : goal.returns
returns c =
    let face = c.args.face.now in
    subst (λ ps. IfOk c.add_pieces.result (λ _. c.add_pieces.new.all.items ≡ c.args.all.now.items ++ face_patches c.args.variables.now (face_seat face.index face.first face.points.now) ps))
    (c.as_slice.ensures ∙ c.in_ok-corners.ensures) c.add_pieces.ensures
