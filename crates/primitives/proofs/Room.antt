-- The patches of a primitive aren't more than its frame may take.
use Rattle.std.proofs.Common.{◌≡◌, ◌∙◌, ap, sym, refl, subst, arith, ℕ, zero, suc, ◌+◌, ◌*◌, ◌≤◌, Bool, true, false, cond, nat_lt, List, [], ◌∷◌, length, take, drop, Option, Some, None, Result, Ok, Err, length-append, not}
use Rattle.std.specs.Prelude.{IfOk}
use Rattle.std.specs.List.{sum_by}
use Rattle.std.proofs.lemmas.Bool.Decides.{nat_tests}
use Rattle.std.proofs.lemmas.List.{length-map}
use Rattle.std.proofs.lemmas.List.FromFn.{length-map-range_with_len}
use Rattle.std.proofs.lemmas.List.Sums.{sum_by-cons}
use Rattle.fixed_math.specs.declared.vec3.Vec3.{Vec3}
use Rattle.patches.specs.declared.patch.Patch.{Patch}
use Rattle.quadrics.specs.declared.any_patch.AnyPatch.{AnyPatch}
use Rattle.quadrics.specs.declared.any_patch.AnyPatch.TheVariants.{Plain, Quadric}
use Rattle.scene.specs.declared.params.Param.{Param}
use Rattle.transforms.specs.Map.{Map}
use Rattle.rib_reader.specs.declared.args.Arg.{Arg}
use Rattle.rib_reader.specs.Table.{row_of}
use Rattle.rib_reader.specs.Lists.{is_geometry, has_points}
use Rattle.rib_reader.specs.declared.req.Req.{Req}
use Rattle.rib_reader.specs.declared.req.Req.TheVariants as reqs
use Rattle.mesh_basis.specs.declared.shape.Shape.{Shape}
use Rattle.mesh_basis.specs.declared.counts.Counts.{Counts}
use Rattle.mesh_basis.specs.Ranges.{with_next, are_in_range}
use Rattle.mesh_basis.specs.Counts.{counts_of}
use Rattle.mesh_basis.specs.Meshes.{all_from, patch_at, patches_in}
use Rattle.mesh_basis.specs.Polygons.{point, piece_count, piece_of, pieces_of, flat_normal}
use Rattle.scene_parts.specs.Bases.{BasisValues, patch_shape, mesh_shape}
use Rattle.scene_parts.specs.Faces.{FaceValues, one_face, faces_in}
use Rattle.scene_parts.specs.declared.code.StateCode.{StateCode}
use Rattle.scene_parts.specs.declared.code.StateCode.TheVariants.{G5, M3, M7}
use Rattle.scene.specs.declared.seat.Seat.{Seat}
use Rattle.primitives.specs.declared.fault.PrimitiveFault.{PrimitiveFault}
use Rattle.primitives.specs.declared.fault.PrimitiveFault.TheVariants as faults
use Rattle.primitives.specs.Variables.{are_counted, mesh_extent, mesh_seat, quadric_extent, quadric_seat, faces_extent, face_seat}
use Rattle.primitives.specs.Points.{face_points}
use Rattle.primitives.specs.Patches.{PatchValue, Made, seated, all_seated, mesh_counted, face_patches, faces_from, faces_patches, quadric_patches, patches_over}
use Rattle.primitives.specs.declared.forms.Form.{Form}
use Rattle.primitives.specs.Quadrics.{form_of, halves, patch_at as quadric_at}
use Rattle.primitives.specs.Spread.{spread}
use Rattle.primitives.specs.Answers.{GivesMade}

abbrev refused : StateCode → Made
refused code = Err code

abbrev made : List PatchValue → Made
made patches = Ok patches

seated_length : {A : Type 0} (kind : A → AnyPatch) (params : List Param) (flat : Option Vec3) (seats : ℕ → Seat) (k : ℕ) (ps : List A) → length (seated kind params flat seats k ps) ≡ length ps
unfolding seated
seated_length kind params flat seats k [] = refl
seated_length kind params flat seats k (p ∷ ps) = ap suc (seated_length kind params flat seats (k + 1) ps)

-- ---- meshes

all_length : {A : Type 0} (f : ℕ → Option A) (k n : ℕ) (ps : List A) → all_from f k n ≡ Some ps → length ps ≡ n
unfolding all_from
all_length {A = A} f k zero ps e = let same : [] ≡ ps = cc in sym (ap length same)
all_length {A = A} f k (suc n) ps e = by_parts (f k) (all_from f (k + 1) n) (λ qs r. all_length f (k + 1) n qs r) refl e
  where
    by_parts : (o : Option A) (rest : Option (List A)) → ((qs : List A) → all_from f (k + 1) n ≡ Some qs → length qs ≡ n)
        → all_from f (k + 1) n ≡ rest → with_next o rest ≡ Some ps → length ps ≡ suc n
    by_parts (Some q) (Some qs) long r e = let same : q ∷ qs ≡ ps = cc in sym (ap length same) ∙ ap suc (long qs r)
    by_parts (Some q) None long r e = absurd cc
    by_parts None (Some qs) long r e = absurd cc
    by_parts None None long r e = absurd cc

few_seated : {A : Type 0} (kind : A → AnyPatch) (params : List Param) (seats : ℕ → Seat) (o : Option (List A)) (n room : ℕ) (qs : List PatchValue) → ((ps : List A) → o ≡ Some ps → length ps ≡ n) → n ≤ room →
    all_seated kind params seats o ≡ made qs → length qs ≤ room
few_seated kind params seats None n room qs long fits e = absurd cc
few_seated kind params seats (Some ps) n room qs long fits e =
    let same : seated kind params None seats 0 ps ≡ qs = cc in
    subst (λ m. m ≤ room) (sym (ap length (sym same) ∙ seated_length kind params None seats 0 ps ∙ long ps refl)) fits

few_counted : (params : List Param) (shape : Shape) (room : ℕ) (ps : List Vec3) (o : Option Counts) (qs : List PatchValue) → mesh_counted params shape room ps o ≡ made qs → length qs ≤ room
few_counted params shape room ps None qs e = absurd cc
few_counted params shape room ps (Some c) qs e =
    by_tests (are_counted (mesh_extent shape c) params) (nat_lt room (c.along_u * c.along_v)) refl e
  where
    in_range : (t : Bool) (n : ℕ) (rs : List Patch) → cond t (all_from (patch_at ps shape c.along_u) 0 n) None ≡ Some rs → length rs ≡ n
    in_range true n rs e = all_length (patch_at ps shape c.along_u) 0 n rs e
    in_range false n rs e = absurd cc

    by_tests : (a b : Bool) → nat_lt room (c.along_u * c.along_v) ≡ b
        → cond (not a) (refused G5) (cond b (refused M3) (all_seated Plain params (mesh_seat shape c) (patches_in ps shape c))) ≡ made qs → length qs ≤ room
    by_tests false b low e = absurd cc
    by_tests true true low e = absurd cc
    by_tests true false low e =
        few_seated Plain params (mesh_seat shape c) (patches_in ps shape c) (c.along_u * c.along_v) room qs
        (λ rs is. in_range (are_in_range ps) (c.along_u * c.along_v) rs is) (grind (arith, nat_tests, low)) e

-- ---- faces

take_short : (n : ℕ) (xs : List ℕ) → length (take n xs) ≤ n
take_short zero [] = omega arith
take_short zero (x ∷ xs) = omega arith
take_short (suc n) [] = omega arith
take_short (suc n) (x ∷ xs) = let rest = take_short n xs in omega (arith, rest)

faces_length : (params : List Param) (ps : List Vec3) (j first : ℕ) (ns corners : List ℕ) → length (faces_from params ps j first ns corners) ≤ sum_by piece_count ns
unfolding faces_from
faces_length params ps j first [] corners = omega arith
faces_length params ps j first (n ∷ ns) corners =
    let face = face_points ps (take n corners) in
    let seats = face_seat j first (take n corners) in
    let here = face_patches params seats face in
    let rest = faces_from params ps (j + 1) (first + n) ns (drop n corners) in
    let both = length-append here rest in
    let this : length here ≡ piece_count (length (take n corners)) =
    seated_length Plain params (Some (flat_normal face)) seats 0 (pieces_of face)
    ∙ length-map-range_with_len (piece_of face) 0 (piece_count (length face))
    ∙ ap piece_count (length-map (take n corners) (point ps)) in
    let short = take_short n corners in
    let others = faces_length params ps (j + 1) (first + n) ns (drop n corners) in
    let all = sum_by-cons piece_count n ns in
    omega (arith, both, this, short, others, all)

few_faces : (params : List Param) (room : ℕ) (ps : List Vec3) (o : Option FaceValues) (qs : List PatchValue) → faces_patches params room ps o ≡ made qs → length qs ≤ room
few_faces params room ps None qs e = absurd cc
few_faces params room ps (Some f) qs e =
    by_tests (are_counted (faces_extent (length ps) f) params) (nat_lt room (sum_by piece_count f.sizes)) (are_in_range ps) refl e
  where
    by_tests : (a b t : Bool) → nat_lt room (sum_by piece_count f.sizes) ≡ b
        → cond (not a) (refused G5) (cond b (refused M3) (cond t (made (faces_from params ps 0 0 f.sizes f.corners)) (refused M7))) ≡ made qs → length qs ≤ room
    by_tests false b t low e = absurd cc
    by_tests true true t low e = absurd cc
    by_tests true false false low e = absurd cc
    by_tests true false true low e =
        let same : faces_from params ps 0 0 f.sizes f.corners ≡ qs = cc in
        let fits : sum_by piece_count f.sizes ≤ room = grind (arith, nat_tests, low) in
        let few = faces_length params ps 0 0 f.sizes f.corners in
        subst (λ (l : List PatchValue). length l ≤ room) same (omega (arith, few, fits))

-- ---- requests

pub few_over : (name : Req) (args : List Arg) (bases : BasisValues) (params : List Param) (room : ℕ) (ps : List Vec3) (qs : List PatchValue) → patches_over name args bases params room ps ≡ made qs → length qs ≤ room
few_over reqs.Patch args bases params room ps qs e = few_counted params (patch_shape args bases) room ps (counts_of (patch_shape args bases) (length ps)) qs e
few_over reqs.PatchMesh args bases params room ps qs e = few_counted params (mesh_shape args bases) room ps (counts_of (mesh_shape args bases) (length ps)) qs e
few_over reqs.Polygon args bases params room ps qs e = few_faces params room ps (one_face (length ps)) qs e
few_over reqs.PointsPolygons args bases params room ps qs e = few_faces params room ps (faces_in (length ps) args) qs e
few_over _ args bases params room ps qs e = let same : [] ≡ qs = cc in subst (λ (l : List PatchValue). length l ≤ room) same (omega arith)

-- whatever is answered
pub few_made : (result : Result (List PatchValue) PrimitiveFault) (name : Req) (args : List Arg) (bases : BasisValues) (params : List Param) (room : ℕ) (ps : List Vec3) →
    GivesMade result (patches_over name args bases params room ps) → IfOk result (λ qs. length qs ≤ room)
few_made (Ok qs) name args bases params room ps is = few_over name args bases params room ps qs is
few_made (Err (faults.Refused code)) name args bases params room ps is = tt
few_made (Err faults.NoMemory) name args bases params room ps is = tt

few_quadric : (params : List Param) (form : Form) (object : Map) (room : ℕ) (qs : List PatchValue) → quadric_patches params form object room ≡ made qs → length qs ≤ room
few_quadric params form object room qs e = by_tests (are_counted quadric_extent params) (nat_lt room (4 * halves form)) refl e
  where
    by_tests : (a b : Bool) → nat_lt room (4 * halves form) ≡ b
        → cond (not a) (refused G5) (cond b (refused M3) (all_seated Quadric (spread (halves form) params) (quadric_seat (halves form)) (all_from (quadric_at object form) 0 (4 * halves form)))) ≡ made qs → length qs ≤ room
    by_tests false b low e = absurd cc
    by_tests true true low e = absurd cc
    by_tests true false low e =
        few_seated Quadric (spread (halves form) params) (quadric_seat (halves form)) (all_from (quadric_at object form) 0 (4 * halves form)) (4 * halves form) room qs
        (λ rs is. all_length (quadric_at object form) 0 (4 * halves form) rs is) (grind (arith, nat_tests, low)) e

pub few_quadric_made : (result : Result (List PatchValue) PrimitiveFault) (params : List Param) (form : Form) (object : Map) (room : ℕ) →
    GivesMade result (quadric_patches params form object room) → IfOk result (λ qs. length qs ≤ room)
few_quadric_made (Ok qs) params form object room is = few_quadric params form object room qs is
few_quadric_made (Err (faults.Refused code)) params form object room is = tt
few_quadric_made (Err faults.NoMemory) params form object room is = tt

-- ---- requests with points

-- a primitive that is no quadric has points
pub others_have_points : (name : Req) (args : List Arg) → is_geometry (row_of name).tail ≡ true → form_of name args ≡ None → has_points (row_of name).tail ≡ true
others_have_points reqs.Sphere args g n = absurd cc
others_have_points reqs.Cylinder args g n = absurd cc
others_have_points reqs.Cone args g n = absurd cc
others_have_points reqs.Disk args g n = absurd cc
others_have_points _ args g n = g
