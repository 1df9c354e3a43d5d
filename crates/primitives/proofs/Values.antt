-- The values that a patch has of the variables of its primitive.
use Rattle.std.proofs.Common.{◌≡◌, ◌∙◌, ap, sym, refl, subst, arith, ℕ, zero, suc, ◌+◌, ◌-◌, ◌*◌, ◌/◌, ◌%◌, ◌^◌, ◌<◌, ◌≤◌, ◌==◌, Bool, true, false, ◌&&◌, not, cond, nat_lt, nat_le, List, [], ◌∷◌, length, map, take, drop, filter, Option, Some, None, All, slice_get, slice_index_or}
use Rattle.std.proofs.Math.Nat.{div-le_self, mul-le-mul_left, mod-lt}
use Rattle.std.proofs.lemmas.Bool.Decides.{nat_tests}
use Rattle.std.proofs.lemmas.Bool.{and_parts}
use Rattle.std.proofs.lemmas.List.{length-map}
use Rattle.std.proofs.lemmas.List.Elements.{All-filter}
use Rattle.std.specs.List.{list_all}
use Rattle.scene.specs.declared.params.Class.{Class}
use Rattle.scene.specs.declared.params.Class.TheVariants.{Constant, Uniform, Varying, Vertex, FaceVarying}
use Rattle.scene.specs.declared.params.Kind.{Kind}
use Rattle.scene.specs.declared.params.Kind.TheVariants as kinds
use Rattle.scene.specs.declared.params.Param.{Param}
use Rattle.rib_reader.specs.Holding.{holding, is_named}
use Rattle.rib_reader.specs.Lists.{is_points}
use Rattle.scene.specs.Kinds.{width, count, is_of_kind}
use Rattle.mesh_basis.specs.declared.shape.Shape.{Shape}
use Rattle.mesh_basis.specs.declared.counts.Counts.{Counts}
use Rattle.mesh_basis.specs.Counts.{linear_count, cubic_count, count_along, both, counts_of}
use Rattle.mesh_basis.specs.Polygons.{piece_count}
use Rattle.scene_parts.specs.Faces.{are_places}
use Rattle.primitives.specs.declared.seat.Extent.{Extent}
use Rattle.scene.specs.declared.seat.Seat.{Seat}
use Rattle.scene.specs.Seats.{value_places, IsIn, IsOfKind, IsThere}
use Rattle.primitives.specs.Variables.{variables_in, values_in, is_counted, are_counted, IsBelow, IsSeat, corners_along, HasSides, mesh_extent, corner_in, mesh_seat, face_seat}
use Rattle.primitives.proofs.Lists.{all_none, all_one, all_first, all_then, all_either}

-- ---- lists of what stands behind others

pub filter_map : {A B : Type 0} (f : A → B) (q : B → Bool) (xs : List A) → filter q (map f xs) ≡ map f (filter (λ x. q (f x)) xs)
filter_map f q [] = refl
filter_map f q (x ∷ xs) = ap (λ ys. cond (q (f x)) (f x ∷ ys) ys) (filter_map f q xs) ∙ by_test (q (f x))
  where
    by_test : (b : Bool) → cond b (f x ∷ map f (filter (λ y. q (f y)) xs)) (map f (filter (λ y. q (f y)) xs)) ≡ map f (cond b (x ∷ filter (λ y. q (f y)) xs) (filter (λ y. q (f y)) xs))
    by_test true = refl
    by_test false = refl

pub all_map : {A B : Type 0} (f : A → B) (q : B → Bool) (xs : List A) → list_all q (map f xs) ≡ list_all (λ x. q (f x)) xs
all_map f q [] = refl
all_map f q (x ∷ xs) = ap (λ b. q (f x) && b) (all_map f q xs)

pub all_map_at : {A B : Type 0} (f : A → B) (P : B → Type 0) (xs : List A) (k : ℕ) (x : A) → k < length xs → x ≡ slice_index_or xs k x → All P (map f xs) → P (f x)
all_map_at f P xs k x h is all = subst P (mapped f xs k x h ∙ ap f (sym is)) (all k (f x) (subst (λ n. k < n) (sym (length-map xs f)) h))
  where
    mapped : {A B : Type 0} (f : A → B) (xs : List A) (k : ℕ) (x : A) → k < length xs → slice_index_or (map f xs) k (f x) ≡ f (slice_index_or xs k x)
    mapped f [] k x h = absurd (omega (arith, h))
    mapped f (y ∷ ys) zero x h = refl
    mapped f (y ∷ ys) (suc k) x h = mapped f ys k x (omega (arith, h))

-- ---- variables that hold

each_all : {A : Type 0} (P : A → Type 0) (xs : List A) → ((k : ℕ) (x : A) → slice_get xs k ≡ Some x → P x) → All P xs
each_all P [] each = all_none P
each_all P (x ∷ xs) each = all_first P x xs (each 0 x refl) (each_all P xs (λ k y there. each (suc k) y there))

pub all_rest : {A : Type 0} (P : A → Type 0) (x : A) (xs : List A) → All P (x ∷ xs) → (P x) × (All P xs)
all_rest P x xs all = (all 0 x (omega arith), λ k d h. all (suc k) d (omega (arith, h)))

holding_all : (P : Param → Type 0) (ps : List Param) → All P ps → All P (holding ps)
holding_all P [] all = all_none P
holding_all P (p ∷ ps) all =
    let parts = all_rest P p ps all in
    let rest = holding_all P ps parts.1 in
    all_either P (is_named p.name ps) (holding ps) (p ∷ holding ps) rest (all_first P p (holding ps) parts.0 rest)

-- each has values of its kind
pub kinds_in : (ps : List Param) → ((k : ℕ) (p : Param) → slice_get ps k ≡ Some p → is_of_kind p.kind p.values ≡ true) → All IsOfKind (variables_in ps)
kinds_in ps each = All-filter (λ p. not (is_points p.name)) IsOfKind (holding ps) (holding_all IsOfKind ps (each_all IsOfKind ps each))

-- ---- values that are there

fits_in : (k : Kind) (n v c : ℕ) → n < v → c ≡ width k * v → width k * n + width k ≤ c
fits_in kinds.Float n v c h e = omega (arith, h, e)
fits_in kinds.Color n v c h e = omega (arith, h, e)
fits_in kinds.Point n v c h e = omega (arith, h, e)
fits_in kinds.Vector n v c h e = omega (arith, h, e)
fits_in kinds.Normal n v c h e = omega (arith, h, e)
fits_in kinds.Str n v c h e = omega (arith, h, e)
fits_in kinds.Pair n v c h e = omega (arith, h, e)

same_number : (a b : ℕ) → (a == b) ≡ true → a ≡ b
same_number a b e = grind (arith, nat_tests)

there_by : (e : Extent) (seat : Seat) (p : Param) (class : Class) → IsSeat e seat → count p.values ≡ width p.kind * values_in class e → All (IsIn p) (value_places class seat)
there_by e seat p Constant inside counted = all_one (IsIn p) 0 (fits_in p.kind 0 1 (count p.values) (omega arith) counted)
there_by e seat p Uniform inside counted = all_one (IsIn p) seat.face (fits_in p.kind seat.face e.faces (count p.values) inside.face counted)
there_by e seat p Varying inside counted = all_then (IsBelow e.points) (IsIn p) seat.points (λ n h. fits_in p.kind n e.points (count p.values) h counted) inside.points
there_by e seat p Vertex inside counted = all_then (IsBelow e.points) (IsIn p) seat.points (λ n h. fits_in p.kind n e.points (count p.values) h counted) inside.points
there_by e seat p FaceVarying inside counted = all_then (IsBelow e.corners) (IsIn p) seat.corners (λ n h. fits_in p.kind n e.corners (count p.values) h counted) inside.corners

there_of : (e : Extent) (seat : Seat) (p : Param) → IsSeat e seat → IsOfKind p → is_counted e p ≡ true → IsThere seat p
there_of e seat p inside kind counted =
    record { kind = kind; within = there_by e seat p p.class inside (same_number (count p.values) (width p.kind * values_in p.class e) counted) }

-- variables that are counted have values wherever a patch of their primitive stands
pub all_there : (e : Extent) (seat : Seat) (ps : List Param) → IsSeat e seat → All IsOfKind ps → are_counted e ps ≡ true → All (IsThere seat) ps
all_there e seat [] inside kinds counted = all_none (IsThere seat)
all_there e seat (p ∷ ps) inside kinds counted =
    let parts = all_rest IsOfKind p ps kinds in
    let counts = and_parts (is_counted e p) (are_counted e ps) counted in
    all_first (IsThere seat) p ps (there_of e seat p inside parts.0 counts.0) (all_there e seat ps inside parts.1 counts.1)

-- ---- patches of meshes

pub corner_below : (u v a b : ℕ) → a < v → b < u → u * a + b < u * v
corner_below u v a b h g =
    let most : u * (a + 1) ≤ u * v = mul-le-mul_left u (omega (arith, h)) in
    let next : u * (a + 1) ≡ u * a + u = grind arith in
    omega (arith, most, next, g)

along_some : (periodic : Bool) (m : ℕ) → 1 ≤ m → 1 ≤ corners_along periodic m
along_some true m h = h
along_some false m h = omega (arith, h)

pub four_below : (l a b c d : ℕ) → a < l → b < l → c < l → d < l → All (IsBelow l) (a ∷ b ∷ c ∷ d ∷ [])
four_below l a b c d ha hb hc hd =
    let P = IsBelow l in
    all_first P a (b ∷ c ∷ d ∷ []) ha (all_first P b (c ∷ d ∷ []) hb (all_first P c (d ∷ []) hc (all_one P d hd)))

some_factors : (m n k : ℕ) → k < m * n → (1 ≤ m) × (1 ≤ n)
some_factors zero n k h = absurd (omega (arith, h))
some_factors (suc m) zero k h = absurd (none (suc m) k h)
  where
    none : (m k : ℕ) → k < m * 0 → ⊥
    none m k h = grind (arith, h)
some_factors (suc m) (suc n) k h = (omega arith, omega arith)

-- a patch of a mesh stands in it
pub mesh_inside : (s : Shape) (c : Counts) (k : ℕ) → k < c.along_u * c.along_v → IsSeat (mesh_extent s c) (mesh_seat s c k)
mesh_inside s c k h =
    let some = some_factors c.along_u c.along_v k h in
    let u = corners_along s.periodic_u c.along_u in
    let v = corners_along s.periodic_v c.along_v in
    let some_u = along_some s.periodic_u c.along_u some.0 in
    let some_v = along_some s.periodic_v c.along_v some.1 in
    let below : (x y : ℕ) → corner_in u v x y < u * v = λ x y. corner_below u v (y % v) (x % u) (mod-lt y some_v) (mod-lt x some_u) in
    let x = k % c.along_u in
    let y = k / c.along_u in
    let all = four_below (u * v) _ _ _ _ (below x y) (below (x + 1) y) (below x (y + 1)) (below (x + 1) (y + 1)) in
    record { face = h; points = all; corners = all }

-- along a side stand no more corners than points
linear_fits : (periodic : Bool) (n m : ℕ) → linear_count periodic n ≡ Some m → corners_along periodic m ≤ n
linear_fits true n m e = let same : n ≡ m = some_same n m e in omega (arith, same)
  where
    some_same : (a b : ℕ) → Some a ≡ Some b → a ≡ b
    some_same a b e = cc
linear_fits false n m e = by_test (nat_le 2 n) refl e
  where
    by_test : (t : Bool) → nat_le 2 n ≡ t → cond t (Some (n - 1)) None ≡ Some m → m + 1 ≤ n
    by_test true low e = let same : n - 1 ≡ m = cc in grind (arith, low, same)
    by_test false low e = absurd cc

cubic_fits : (periodic : Bool) (n step m : ℕ) → cubic_count periodic n step ≡ Some m → corners_along periodic m ≤ n
cubic_fits true n step m e = by_test (nat_le 4 n && n % step == 0) e
  where
    by_test : (t : Bool) → cond t (Some (n / step)) None ≡ Some m → m ≤ n
    by_test true e = let same : n / step ≡ m = cc in let few = div-le_self n step in omega (arith, same, few)
    by_test false e = absurd cc
cubic_fits false n step m e = by_test (nat_le 4 n && (n - 4) % step == 0) refl e
  where
    by_test : (t : Bool) → (nat_le 4 n && (n - 4) % step == 0) ≡ t → cond t (Some ((n - 4) / step + 1)) None ≡ Some m → m + 1 ≤ n
    by_test true low e =
        let same : (n - 4) / step + 1 ≡ m = cc in
        let few = div-le_self (n - 4) step in
        let four = (and_parts (nat_le 4 n) ((n - 4) % step == 0) low).0 in
        let much : 4 ≤ n = grind (arith, four) in
        omega (arith, same, few, much)
    by_test false low e = absurd cc

side_fits : (bicubic periodic : Bool) (n step m : ℕ) → count_along bicubic periodic n step ≡ Some m → corners_along periodic m ≤ n
side_fits true periodic n step m e = cubic_fits periodic n step m e
side_fits false periodic n step m e = linear_fits periodic n m e

both_some : (a b : Option ℕ) (c : Counts) → both a b ≡ Some c → (a ≡ Some c.along_u) × (b ≡ Some c.along_v)
both_some (Some m) (Some n) c e = (same (ap (λ (o : Option Counts). first o) e), same (ap (λ (o : Option Counts). second o) e))
  where
    first : Option Counts → Option ℕ
    first (Some c) = Some c.along_u
    first None = None

    second : Option Counts → Option ℕ
    second (Some c) = Some c.along_v
    second None = None

    same : {A : Type 0} {x y : A} → x ≡ y → x ≡ y
    same e = e
both_some (Some m) None c e = absurd cc
both_some None b c e = absurd cc

pub sides_fit : (s : Shape) (points : ℕ) (c : Counts) → counts_of s points ≡ Some c → s.nu < 2 ^ 32 → s.nv < 2 ^ 32 → HasSides s c
sides_fit s points c e u v = by_test (points == s.nu * s.nv) e
  where
    by_test : (t : Bool) → cond t (both (count_along s.bicubic s.periodic_u s.nu s.step_u) (count_along s.bicubic s.periodic_v s.nv s.step_v)) None ≡ Some c → HasSides s c
    by_test true e =
        let each = both_some (count_along s.bicubic s.periodic_u s.nu s.step_u) (count_along s.bicubic s.periodic_v s.nv s.step_v) c e in
        let few_u = side_fits s.bicubic s.periodic_u s.nu s.step_u c.along_u each.0 in
        let few_v = side_fits s.bicubic s.periodic_v s.nv s.step_v c.along_v each.1 in
        record { u = omega (arith, few_u, u); v = omega (arith, few_v, v) }
    by_test false e = absurd cc

-- ---- pieces of faces

place_below : (n : ℕ) (ks : List ℕ) (k : ℕ) → are_places n ks ≡ true → k < length ks → slice_index_or ks k 0 < n
place_below n [] k h few = absurd (omega (arith, few))
place_below n (j ∷ js) zero h few = let low = (and_parts (nat_lt j n) (are_places n js) h).0 in grind (arith, low)
place_below n (j ∷ js) (suc k) h few = place_below n js k (and_parts (nat_lt j n) (are_places n js) h).1 (omega (arith, few))

across_below : (n i : ℕ) (t : Bool) → nat_lt (2 * i + 3) n ≡ t → i < piece_count n → cond t (2 * i + 3) (2 * i + 2) < n
across_below n i true e h = grind (arith, e)
across_below n i false e h = omega (arith, h)

-- a piece of a face stands among the primitive's faces
pub face_inside : (e : Extent) (face first : ℕ) (points : List ℕ) (i : ℕ) → i < piece_count (length points) → face < e.faces → first + length points ≤ e.corners
    → are_places e.points points ≡ true → IsSeat e (face_seat face first points i)
face_inside e face first points i h is_face few places =
    let n = length points in
    let t = nat_lt (2 * i + 3) n in
    let across = cond t (2 * i + 3) (2 * i + 2) in
    let k0 : 0 < n = omega (arith, h) in
    let k1 : 2 * i + 1 < n = omega (arith, h) in
    let k2 : across < n = across_below n i t refl h in
    let k3 : 2 * i + 2 < n = omega (arith, h) in
    let at : (k : ℕ) → k < n → slice_index_or points k 0 < e.points = λ k few. place_below e.points points k places few in
    let on : (k : ℕ) → k < n → first + k < e.corners = λ k below. omega (arith, few, below) in
    record {
      face = is_face;
      points = four_below e.points _ _ _ _ (at 0 k0) (at (2 * i + 1) k1) (at across k2) (at (2 * i + 2) k3);
      corners = four_below e.corners _ _ _ _ (on 0 k0) (on (2 * i + 1) k1) (on across k2) (on (2 * i + 2) k3);
    }

pub places_take : (n : ℕ) (ks : List ℕ) (k : ℕ) → are_places n ks ≡ true → are_places n (take k ks) ≡ true
places_take n ks zero h = refl
places_take n [] (suc k) h = refl
places_take n (j ∷ js) (suc k) h =
    let parts = and_parts (nat_lt j n) (are_places n js) h in
    ap (λ b. b && are_places n (take k js)) parts.0 ∙ places_take n js k parts.1

pub places_drop : (n : ℕ) (ks : List ℕ) (k : ℕ) → are_places n ks ≡ true → are_places n (drop k ks) ≡ true
places_drop n ks zero h = h
places_drop n [] (suc k) h = refl
places_drop n (j ∷ js) (suc k) h = places_drop n js k (and_parts (nat_lt j n) (are_places n js) h).1
