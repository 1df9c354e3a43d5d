-- Patches that are made one after another.
use Rattle.std.proofs.Common.{◌≡◌, ◌∙◌, ap, sym, refl, subst, arith, ℕ, zero, suc, ◌+◌, ◌-◌, ◌*◌, ◌<◌, ◌≤◌, Bool, true, false, ◌&&◌, nat_le, nat_lt, List, [], ◌∷◌, ◌++◌, length, map, take, drop, Option, Some, None, Ok, Err, slice_index_or, append_assoc, not, if◌then◌else◌}
use Rattle.std.specs.List.{range_with_len, sum_by}
use Rattle.std.proofs.lemmas.Bool.{false≢true, and_parts}
use Rattle.std.proofs.lemmas.List.{append-nil}
use Rattle.std.proofs.lemmas.List.Sums.{sum_by-cons}
use Rattle.std.proofs.Math.Seq.{drop-cons}
use borrow.Author.Tests.{leb-true}
use Rattle.fixed_math.specs.declared.vec3.Vec3.{Vec3}
use Rattle.fixed_math.specs.Axes.{origin}
use Rattle.patches.specs.declared.patch.Patch.{Patch}
use Rattle.quadrics.specs.declared.any_patch.AnyPatch.{AnyPatch}
use Rattle.quadrics.specs.declared.any_patch.AnyPatch.TheVariants.{Plain}
use Rattle.scene.specs.declared.params.Param.{Param}
use Rattle.mesh_basis.specs.declared.counts.Counts.{Counts}
use Rattle.mesh_basis.specs.Ranges.{with_next, is_in_range, are_in_range}
use Rattle.mesh_basis.specs.declared.shape.Shape.{Shape}
use Rattle.mesh_basis.specs.Counts.{counts_of}
use Rattle.mesh_basis.specs.Meshes.{all_from, patch_at, patches_in}
use Rattle.mesh_basis.specs.Polygons.{point, piece_count}
use Rattle.mesh_basis.proofs.Runs.{all_step}
use Rattle.scene_parts.specs.Faces.{FaceValues, use_up}
use Rattle.scene_parts.specs.declared.code.StateCode.TheVariants.{G5, M3, M7}
use Rattle.scene.specs.declared.seat.Seat.{Seat}
use Rattle.primitives.specs.Variables.{are_counted, mesh_extent, mesh_seat, faces_extent, face_seat}
use Rattle.primitives.specs.Points.{face_points}
use Rattle.primitives.specs.Patches.{PatchValue, Made, patch_with, seated, all_seated, mesh_counted, mesh_patches, face_patches, faces_from, faces_patches}

abbrev made : List PatchValue → Made
made patches = Ok patches

-- ---- the patches of a mesh, and of a quadric

-- those from patch k on, behind these
abbrev pub mesh_behind : {A : Type 0} → (A → AnyPatch) → List Param → (ℕ → Seat) → List PatchValue → ℕ → Option (List A) → Made
mesh_behind kind params seats done k None = Err M7
mesh_behind kind params seats done k (Some ps) = Ok (done ++ seated kind params None seats k ps)

pub mesh_start : {A : Type 0} (kind : A → AnyPatch) (params : List Param) (seats : ℕ → Seat) (o : Option (List A)) → mesh_behind kind params seats [] 0 o ≡ all_seated kind params seats o
mesh_start kind params seats None = refl
mesh_start kind params seats (Some ps) = refl

behind_next : {A : Type 0} (kind : A → AnyPatch) (params : List Param) (seats : ℕ → Seat) (done : List PatchValue) (k : ℕ) (p : A) (o : Option (List A)) →
    mesh_behind kind params seats done k (with_next (Some p) o) ≡ mesh_behind kind params seats (done ++ patch_with params None (seats k) (kind p) ∷ []) (k + 1) o
unfolding seated
behind_next kind params seats done k p None = refl
behind_next kind params seats done k p (Some ps) = ap made (sym (append_assoc done (patch_with params None (seats k) (kind p) ∷ []) (seated kind params None seats (k + 1) ps)))

behind_none : {A : Type 0} (kind : A → AnyPatch) (params : List Param) (seats : ℕ → Seat) (done : List PatchValue) (k : ℕ) (o : Option (List A)) → mesh_behind kind params seats done k (with_next None o) ≡ Err M7
behind_none kind params seats done k None = refl
behind_none kind params seats done k (Some ps) = refl

pub mesh_next : {A : Type 0} (kind : A → AnyPatch) (f : ℕ → Option A) (params : List Param) (seats : ℕ → Seat) (k n : ℕ) (p : A) (done more : List PatchValue) (all : Made) → k < n → f k ≡ Some p →
    more ≡ done ++ patch_with params None (seats k) (kind p) ∷ [] → mesh_behind kind params seats done k (all_from f k (n - k)) ≡ all
    → mesh_behind kind params seats more (k + 1) (all_from f (k + 1) (n - (k + 1))) ≡ all
mesh_next kind f params seats k n p done more all h e g inv =
    let rest = all_from f (k + 1) (n - (k + 1)) in
    ap (λ ds. mesh_behind kind params seats ds (k + 1) rest) g
    ∙ sym (ap (mesh_behind kind params seats done k) (all_step f k n h ∙ ap (λ o. with_next o rest) e) ∙ behind_next kind params seats done k p rest) ∙ inv

pub mesh_none : {A : Type 0} (kind : A → AnyPatch) (f : ℕ → Option A) (params : List Param) (seats : ℕ → Seat) (k n : ℕ) (done : List PatchValue) (all : Made) → k < n → f k ≡ None →
    mesh_behind kind params seats done k (all_from f k (n - k)) ≡ all → all ≡ Err M7
mesh_none kind f params seats k n done all h e inv =
    let rest = all_from f (k + 1) (n - (k + 1)) in
    sym inv ∙ ap (mesh_behind kind params seats done k) (all_step f k n h ∙ ap (λ o. with_next o rest) e) ∙ behind_none kind params seats done k rest

pub mesh_end : {A : Type 0} (kind : A → AnyPatch) (f : ℕ → Option A) (params : List Param) (seats : ℕ → Seat) (k n : ℕ) (done : List PatchValue) (all : Made) → n ≤ k →
    mesh_behind kind params seats done k (all_from f k (n - k)) ≡ all → all ≡ Ok done
unfolding all_from seated
mesh_end kind f params seats k n done all h inv =
    let e : n - k ≡ 0 = omega arith in
    sym inv ∙ ap (λ m. mesh_behind kind params seats done k (all_from f k m)) e ∙ ap made (append-nil done)

-- ---- the pieces of a face

pub piece_next : (f : ℕ → Patch) (params : List Param) (flat : Option Vec3) (seats : ℕ → Seat) (i n : ℕ) (done more all : List PatchValue) → i < n →
    more ≡ done ++ patch_with params flat (seats i) (Plain (f i)) ∷ [] → done ++ seated Plain params flat seats i (map f (range_with_len i (n - i))) ≡ all
    → more ++ seated Plain params flat seats (i + 1) (map f (range_with_len (i + 1) (n - (i + 1)))) ≡ all
unfolding seated
piece_next f params flat seats i n done more all h g inv =
    let e : n - i ≡ suc (n - (i + 1)) = omega arith in
    let rest = seated Plain params flat seats (i + 1) (map f (range_with_len (i + 1) (n - (i + 1)))) in
    ap (λ (l : List PatchValue). l ++ rest) g
    ∙ append_assoc done (patch_with params flat (seats i) (Plain (f i)) ∷ []) rest
    ∙ sym (ap (λ m. done ++ seated Plain params flat seats i (map f (range_with_len i m))) e) ∙ inv

pub piece_end : (f : ℕ → Patch) (params : List Param) (flat : Option Vec3) (seats : ℕ → Seat) (i n : ℕ) (done all : List PatchValue) → n ≤ i →
    done ++ seated Plain params flat seats i (map f (range_with_len i (n - i))) ≡ all → done ≡ all
unfolding seated
piece_end f params flat seats i n done all h inv =
    let e : n - i ≡ 0 = omega arith in
    sym (append-nil done) ∙ sym (ap (λ m. done ++ seated Plain params flat seats i (map f (range_with_len i m))) e) ∙ inv

-- ---- faces

drop_at : (xs : List ℕ) (k d : ℕ) → k < length xs → drop k xs ≡ slice_index_or xs k d ∷ drop (k + 1) xs
drop_at xs k d h = drop-cons xs k d h ∙ ap (λ n. slice_index_or xs k d ∷ drop n xs) (next k)
  where
    next : (k : ℕ) → suc k ≡ k + 1
    next k = omega arith

-- what is left of the sizes, with as many corners, and no more pieces than a frame takes
pub record Left (sizes : List ℕ) (left : ℕ) : Type 0 where
  pub used : use_up sizes left ≡ true
  pub fits : sum_by piece_count sizes ≤ 65536

one_less : (n : ℕ) (ns : List ℕ) (left : ℕ) → Left (n ∷ ns) left → Left ns (left - n)
one_less n ns left l =
    let first = and_parts (nat_le 3 n) (nat_le n left && use_up ns (left - n)) l.used in
    let second = and_parts (nat_le n left) (use_up ns (left - n)) first.1 in
    let fits = l.fits in
    let all = sum_by-cons piece_count n ns in
    record { used = second.1; fits = omega (arith, fits, all) }

-- of one face: it has three corners at least, no more than are left, and no more pieces than a frame takes
pub record Fits (n left : ℕ) : Type 0 where
  pub some : 3 ≤ n
  pub within : n ≤ left
  pub few : piece_count n ≤ 65536

first_fits : (n : ℕ) (ns : List ℕ) (left : ℕ) → Left (n ∷ ns) left → Fits n left
first_fits n ns left l =
    let first = and_parts (nat_le 3 n) (nat_le n left && use_up ns (left - n)) l.used in
    let fits = l.fits in
    let all = sum_by-cons piece_count n ns in
    record {
      some = leb-true 3 n first.0;
      within = leb-true n left (and_parts (nat_le n left) (use_up ns (left - n)) first.1).0;
      few = omega (arith, fits, all);
    }

pub face_fits : (sizes : List ℕ) (k d left : ℕ) → k < length sizes → Left (drop k sizes) left → Fits (slice_index_or sizes k d) left
face_fits sizes k d left h l = first_fits (slice_index_or sizes k d) (drop (k + 1) sizes) left (subst (λ ns. Left ns left) (drop_at sizes k d h) l)

pub face_less : (sizes : List ℕ) (k d left : ℕ) → k < length sizes → Left (drop k sizes) left → Left (drop (k + 1) sizes) (left - slice_index_or sizes k d)
face_less sizes k d left h l =
    one_less (slice_index_or sizes k d) (drop (k + 1) sizes) left (subst (λ ns. Left ns left) (drop_at sizes k d h) l)

pub face_next : (params : List Param) (ps : List Vec3) (first : ℕ) (sizes corners : List ℕ) (k d : ℕ) (done more all : List PatchValue) → k < length sizes →
    more ≡ done ++ face_patches params (face_seat k first (take (slice_index_or sizes k d) corners)) (face_points ps (take (slice_index_or sizes k d) corners)) →
    done ++ faces_from params ps k first (drop k sizes) corners ≡ all →
    more ++ faces_from params ps (k + 1) (first + slice_index_or sizes k d) (drop (k + 1) sizes) (drop (slice_index_or sizes k d) corners) ≡ all
unfolding faces_from
face_next params ps first sizes corners k d done more all h e inv =
    let n = slice_index_or sizes k d in
    let this = face_patches params (face_seat k first (take n corners)) (face_points ps (take n corners)) in
    let rest = faces_from params ps (k + 1) (first + n) (drop (k + 1) sizes) (drop n corners) in
    ap (λ (l : List PatchValue). l ++ rest) e
    ∙ append_assoc done this rest
    ∙ sym (ap (λ ns. done ++ faces_from params ps k first ns corners) (drop_at sizes k d h)) ∙ inv

pub faces_end : (params : List Param) (ps : List Vec3) (first : ℕ) (sizes corners : List ℕ) (k : ℕ) (done all : List PatchValue) → length sizes ≤ k →
    done ++ faces_from params ps k first (drop k sizes) corners ≡ all → done ≡ all
unfolding faces_from
faces_end params ps first sizes corners k done all h inv =
    sym (append-nil done) ∙ sym (ap (λ ns. done ++ faces_from params ps k first ns corners) (none_left sizes k h)) ∙ inv
  where
    none_left : (xs : List ℕ) (k : ℕ) → length xs ≤ k → drop k xs ≡ []
    none_left [] zero h = refl
    none_left [] (suc k) h = refl
    none_left (x ∷ xs) zero h = absurd (omega arith)
    none_left (x ∷ xs) (suc k) h = none_left xs k (omega arith)

-- faces that use up so many corners have no more pieces than that
pub pieces_few : (ns : List ℕ) (left : ℕ) → use_up ns left ≡ true → sum_by piece_count ns ≤ left
pieces_few [] left u = omega arith
pieces_few (n ∷ ns) left u =
    let first = and_parts (nat_le 3 n) (nat_le n left && use_up ns (left - n)) u in
    let second = and_parts (nat_le n left) (use_up ns (left - n)) first.1 in
    let within = leb-true n left second.0 in
    let rest = pieces_few ns (left - n) second.1 in
    let all = sum_by-cons piece_count n ns in
    let few : piece_count n ≤ n = omega arith in
    omega (arith, within, rest, all, few)

-- ---- points that faces take

point_near : (ps : List Vec3) (k : ℕ) → are_in_range ps ≡ true → is_in_range (slice_index_or ps k origin) ≡ true
point_near [] k h = refl
point_near (p ∷ ps) zero h = (and_parts (is_in_range p) (are_in_range ps) h).0
point_near (p ∷ ps) (suc k) h = point_near ps k (and_parts (is_in_range p) (are_in_range ps) h).1

and_true : (a b : Bool) → a ≡ true → b ≡ true → (a && b) ≡ true
and_true true b e f = f
and_true false b e f = absurd (false≢true e)

pub face_near : (ps : List Vec3) (corners : List ℕ) → are_in_range ps ≡ true → are_in_range (face_points ps corners) ≡ true
face_near ps [] h = refl
face_near ps (k ∷ ks) h = and_true (is_in_range (point ps k)) (are_in_range (face_points ps ks)) (point_near ps k h) (face_near ps ks h)

-- ---- the order of the faults

-- a mesh with room, whose points are in range
pub mesh_is : (params : List Param) (shape : Shape) (room : ℕ) (ps : List Vec3) (c : Counts) → counts_of shape (length ps) ≡ Some c → are_counted (mesh_extent shape c) params ≡ true → nat_lt room (c.along_u * c.along_v) ≡ false → are_in_range ps ≡ true →
    mesh_patches params shape room ps ≡ all_seated Plain params (mesh_seat shape c) (all_from (patch_at ps shape c.along_u) 0 (c.along_u * c.along_v))
mesh_is params shape room ps c e n f g =
    let all = all_from (patch_at ps shape c.along_u) 0 (c.along_u * c.along_v) in
    let seats = mesh_seat shape c in
    let laid = all_seated Plain params seats (patches_in ps shape c) in
    ap (mesh_counted params shape room ps) e
    ∙ ap (λ b. if not b then Err G5 else (if nat_lt room (c.along_u * c.along_v) then Err M3 else laid)) n
    ∙ ap (λ b. if b then Err M3 else laid) f
    ∙ ap (λ b. all_seated Plain params seats (if b then all else None)) g

-- faces with room, whose points are in range
pub faces_are : (params : List Param) (room : ℕ) (ps : List Vec3) (f : FaceValues) → are_counted (faces_extent (length ps) f) params ≡ true → nat_lt room (sum_by piece_count f.sizes) ≡ false → are_in_range ps ≡ true →
    faces_patches params room ps (Some f) ≡ Ok (faces_from params ps 0 0 f.sizes f.corners)
faces_are params room ps f n e g =
    let all : Made = Ok (faces_from params ps 0 0 f.sizes f.corners) in
    let near : Made = if are_in_range ps then all else Err M7 in
    ap (λ b. if not b then Err G5 else (if nat_lt room (sum_by piece_count f.sizes) then Err M3 else near)) n
    ∙ ap (λ b. if b then Err M3 else near) e ∙ ap (λ b. if b then all else Err M7) g
