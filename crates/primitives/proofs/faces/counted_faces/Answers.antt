use Rattle.std.proofs.Common.{◌≡◌, ◌∙◌, ap, sym, subst, rules, arith, true, false, nat_lt, ◌<◌, ◌^◌, List, length, Ok}
use Rattle.std.specs.List.{sum_by}
use Rattle.mesh_basis.specs.Ranges.{are_in_range}
use Rattle.mesh_basis.specs.Polygons.{piece_count}
use Rattle.scene_parts.specs.Faces.{FaceValues, are_places}
use Rattle.primitives.specs.Variables.{are_counted, faces_extent}
use Rattle.primitives.specs.Patches.{PatchValue, faces_from}
use Rattle.primitives.proofs.Seating.{pieces_few, faces_are}
use Rattle.primitives.proofs.faces.counted_faces.Goals as goal

pub piece_total-requires : goal.piece_total-requires
piece_total-requires c =
    let f = c.faces.inside in
    let pieces = pieces_few f.sizes (length f.corners) c.faces.invariant.used in
    let few = c.faces.invariant.few in
    rw c.as_slice-sizes.ensures (omega (arith, pieces, few))

pub faces_seated-requires-clause-few : goal.faces_seated-requires-clause-few
faces_seated-requires-clause-few c = subst (λ cs. length cs < 2 ^ 64) (sym c.as_slice-corners.ensures) c.faces.invariant.few

pub faces_seated-requires-clause-points : goal.faces_seated-requires-clause-points
faces_seated-requires-clause-points c =
    let corners = c.as_slice-corners.ensures ∙ ap (λ (v : FaceValues). v.corners) c.faces.view_is in
    ap (are_places (length c.args.points.now)) corners ∙ c.requires.points

pub faces_seated-requires-clause-counted : goal.faces_seated-requires-clause-counted
faces_seated-requires-clause-counted c =
    let n = length c.args.points.now in
    let f = c.args.faces.now in
    let vars = c.args.variables.now in
    let sizes = c.as_slice-sizes.ensures ∙ ap (λ (v : FaceValues). v.sizes) c.faces.view_is in
    let corners = c.as_slice-corners.ensures ∙ ap (λ (v : FaceValues). v.corners) c.faces.view_is in
    let yes : c.are_counted.result ≡ true = search rules in
    let counted : are_counted (faces_extent n f) vars ≡ true =
    sym (c.are_counted.ensures ∙ ap (are_counted c.faces_extent.result) (c.as_slice.ensures ∙ c.get.ensures) ∙ ap (λ e. are_counted e vars) c.faces_extent.ensures) ∙ yes in
    ap (λ ns. are_counted (faces_extent n (record { sizes = ns; corners = c.as_slice-corners.result.now })) vars) sizes
    ∙ ap (λ cs. are_counted (faces_extent n (record { sizes = f.sizes; corners = cs })) vars) corners ∙ counted

pub returns : goal.returns
returns c =
    let n = length c.args.points.now in
    let f = c.args.faces.now in
    let ps = c.args.points.now in
    let vars = c.args.variables.now in
    let sizes = c.as_slice-sizes.ensures ∙ ap (λ (v : FaceValues). v.sizes) c.faces.view_is in
    let corners = c.as_slice-corners.ensures ∙ ap (λ (v : FaceValues). v.corners) c.faces.view_is in
    let same =
    ap (λ ns. faces_from vars ps 0 0 ns c.as_slice-corners.result.now) sizes
    ∙ ap (λ cs. faces_from vars ps 0 0 f.sizes cs) corners in
    let yes : c.are_counted.result ≡ true = search rules in
    let counted : are_counted (faces_extent n f) vars ≡ true =
    sym (c.are_counted.ensures ∙ ap (are_counted c.faces_extent.result) (c.as_slice.ensures ∙ c.get.ensures) ∙ ap (λ e. are_counted e vars) c.faces_extent.ensures) ∙ yes in
    let past : nat_lt c.args.room (sum_by piece_count f.sizes) ≡ false = search rules in
    let near : are_in_range ps ≡ true = search rules in
    faces_are vars c.args.room ps f counted past near ∙ ap (λ (all : List PatchValue). Ok all) (sym (c.in_ok-all.ensures ∙ same))
