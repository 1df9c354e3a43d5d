use Rattle.std.proofs.Common.{◌≡◌, ◌∙◌, ap, sym, subst, arith, ◌+◌, ◌-◌, ◌<◌, ◌≤◌, ◌++◌, true, length, take, drop, slice_index_or}
use Rattle.mesh_basis.specs.Polygons.{piece_count}
use Rattle.scene_parts.specs.Faces.{are_places}
use Rattle.primitives.specs.Variables.{faces_extent, face_seat}
use Rattle.primitives.specs.Points.{face_points}
use Rattle.primitives.specs.Patches.{face_patches, faces_from}
use Rattle.primitives.proofs.Seating.{Left, face_fits, face_less, face_next, faces_end}
use Rattle.primitives.proofs.Values.{all_there, face_inside, places_take, places_drop}
use Rattle.primitives.proofs.faces.faces_seated.Goals as goal

pub split_at-requires : goal.split_at-requires
split_at-requires c =
    let fits = (face_fits c.args.sizes.now c.loop-size.size-index 0 (length c.loop-size.rest.now) c.loop-size-test.true c.loop-size.invariant.1.0).within in
    omega (arith, fits)

pub add_face-requires-clause-some : goal.add_face-requires-clause-some
add_face-requires-clause-some c =
    let some = (face_fits c.args.sizes.now c.loop-size.size-index 0 (length c.loop-size.rest.now) c.loop-size-test.true c.loop-size.invariant.1.0).some in
    let front = c.split_at.ensures.front_len in
    omega (arith, some, front)

pub add_face-requires-clause-room : goal.add_face-requires-clause-room
add_face-requires-clause-room c =
    let few = (face_fits c.args.sizes.now c.loop-size.size-index 0 (length c.loop-size.rest.now) c.loop-size-test.true c.loop-size.invariant.1.0).few in
    let front = c.split_at.ensures.front_len in
    subst (λ n. piece_count n ≤ 65536) (sym front) few

pub add_face-requires-clause-few : goal.add_face-requires-clause-few
add_face-requires-clause-few c =
    let fits = (face_fits c.args.sizes.now c.loop-size.size-index 0 (length c.loop-size.rest.now) c.loop-size-test.true c.loop-size.invariant.1.0).within in
    let front = c.split_at.ensures.front_len in
    let whole = c.loop-size.invariant.1.1.1.0 in
    let few = c.requires.few in
    omega (arith, fits, front, whole, few)

pub add_face-requires-clause-there : goal.add_face-requires-clause-there
add_face-requires-clause-there c =
    let sizes = c.args.sizes.now in
    let vars = c.args.variables.now in
    let extent = faces_extent (length c.args.points.now) (record { sizes = sizes; corners = c.args.corners.now }) in
    let face = c.split_at.result.0.now in
    let j = c.loop-size.index in
    let first = c.loop-size.first in
    let fits = (face_fits sizes c.loop-size.size-index 0 (length c.loop-size.rest.now) c.loop-size-test.true c.loop-size.invariant.1.0).within in
    let front = c.split_at.ensures.front_len in
    let same = c.loop-size.invariant.1.1.0 in
    let whole = c.loop-size.invariant.1.1.1.0 in
    let here = c.loop-size-test.true in
    let is_face : j < length sizes = omega (arith, same, here) in
    let within : first + length face ≤ length c.args.corners.now = omega (arith, fits, front, whole) in
    let places : are_places (length c.args.points.now) face ≡ true =
    ap (λ ks. are_places (length c.args.points.now) ks) c.split_at.ensures.front
    ∙ places_take (length c.args.points.now) c.loop-size.rest.now (slice_index_or sizes c.loop-size.size-index 0) c.loop-size.invariant.1.1.1.1 in
    λ i h. all_there extent (face_seat j first face i) vars (face_inside extent j first face i h is_face within places) c.requires.kinds c.requires.counted

pub loop-size-preserved : goal.loop-size-preserved
loop-size-preserved c =
    let params = c.args.variables.now in
    let ps = c.args.points.now in
    let sizes = c.args.sizes.now in
    let k = c.loop-size.size-index in
    let j = c.loop-size.index in
    let first = c.loop-size.first in
    let done = c.loop-size.all.items in
    let more = c.add_face.new.all.items in
    let rest = c.loop-size.rest.now in
    let n = slice_index_or sizes k 0 in
    let behind = drop (k + 1) sizes in
    let here = c.loop-size-test.true in
    let same = c.loop-size.invariant.1.1.0 in
    let whole = c.loop-size.invariant.1.1.1.0 in
    let fits = (face_fits sizes k 0 (length rest) here c.loop-size.invariant.1.0).within in
    let less = face_less sizes k 0 (length rest) here c.loop-size.invariant.1.0 in
    let back = c.split_at.ensures.back_len in
    let left : length c.split_at.result.1.now ≡ length rest - n = omega (arith, back) in
    let at : done ++ faces_from params ps k first (drop k sizes) rest ≡ _ = ap (λ i. done ++ faces_from params ps i first (drop k sizes) rest) (sym same) ∙ c.loop-size.invariant.0 in
    let placed : more ≡ done ++ face_patches params (face_seat k first (take n rest)) (face_points ps (take n rest)) =
    c.in_ok-add_face.ensures ∙ ap (λ cs. done ++ face_patches params (face_seat j first cs) (face_points ps cs)) c.split_at.ensures.front
    ∙ ap (λ i. done ++ face_patches params (face_seat i first (take n rest)) (face_points ps (take n rest))) same in (
      ap (λ cs. more ++ faces_from params ps (j + 1) (first + n) behind cs) c.split_at.ensures.back
          ∙ ap (λ i. more ++ faces_from params ps (i + 1) (first + n) behind (drop n rest)) same
          ∙ face_next params ps first sizes rest k 0 done more _ here placed at,
      (
        subst (λ l. Left behind l) (sym left) less,
        (
          ap (λ i. i + 1) same,
          (
            omega (arith, left, whole, fits),
            ap (λ ks. are_places (length ps) ks) c.split_at.ensures.back ∙ places_drop (length ps) rest n c.loop-size.invariant.1.1.1.1,
          ),
        ),
      ),
    )

pub returns : goal.returns
returns c =
    let sizes = c.args.sizes.now in
    let k = c.loop-size.size-index in
    let done = c.loop-size.all.items in
    let rest = c.loop-size.rest.now in
    let params = c.args.variables.now in
    faces_end params c.args.points.now c.loop-size.first sizes rest k done _ c.loop-size-test.false
    (ap (λ i. done ++ faces_from params c.args.points.now i c.loop-size.first (drop k sizes) rest) (sym c.loop-size.invariant.1.1.0) ∙ c.loop-size.invariant.0)
