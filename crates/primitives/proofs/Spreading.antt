-- The variables of a quadric have values wherever a patch of it stands.
use Rattle.std.proofs.Common.{◌≡◌, ◌∙◌, ap, sym, refl, arith, ℕ, ◌+◌, ◌*◌, ◌/◌, ◌%◌, ◌<◌, ◌==◌, Bool, true, false, ◌&&◌, not, cond, nat_lt, List, [], ◌∷◌, length, map, All, Err, Some, slice_get}
use Rattle.std.specs.List.{range_with_len}
use Rattle.std.proofs.Math.Nat.{mod-lt}
use Rattle.std.proofs.lemmas.Bool.{and_parts}
use Rattle.std.proofs.lemmas.Bool.Decides.{nat_tests}
use Rattle.std.proofs.lemmas.List.FromFn.{length-map-range_with_len}
use Rattle.transforms.specs.Map.{Map}
use Rattle.quadrics.specs.declared.any_patch.AnyPatch.TheVariants.{Quadric}
use Rattle.scene.specs.declared.params.Class.{Class}
use Rattle.scene.specs.declared.params.Class.TheVariants.{Constant, Uniform, Varying, Vertex, FaceVarying}
use Rattle.scene.specs.declared.params.Kind.{Kind}
use Rattle.scene.specs.declared.params.Kind.TheVariants as kinds
use Rattle.scene.specs.declared.params.Values.{Values}
use Rattle.scene.specs.declared.params.Values.TheVariants.{Numbers, Strings}
use Rattle.scene.specs.declared.params.Param.{Param}
use Rattle.scene.specs.Kinds.{width, count, is_string, is_of_kind}
use Rattle.scene.specs.Seats.{IsOfKind, IsThere, names_of, varies}
use Rattle.mesh_basis.specs.Meshes.{all_from}
use Rattle.scene_parts.specs.declared.code.StateCode.{StateCode}
use Rattle.scene_parts.specs.declared.code.StateCode.TheVariants.{G5, M3}
use Rattle.primitives.specs.declared.forms.Form.{Form}
use Rattle.primitives.specs.declared.seat.Extent.{Extent}
use Rattle.primitives.specs.Variables.{is_counted, are_counted, values_in, IsSeat, corner_in, quadric_extent, quadric_seat}
use Rattle.primitives.specs.Quadrics.{halves, patch_at}
use Rattle.primitives.specs.Spread.{blended_at, corners_in, corner_numbers, corner_texts, corner_values, spread_param, spread}
use Rattle.primitives.specs.Patches.{Made, all_seated, quadric_patches}
use Rattle.primitives.proofs.Lists.{all_none, all_first}
use Rattle.primitives.proofs.Values.{all_there, all_rest, corner_below, four_below}

-- a value at each corner of the patches
abbrev corner_extent : ℕ → Extent
corner_extent h = record { faces = 1; points = corners_in h; corners = corners_in h }

abbrev refused : StateCode → Made
refused code = Err code

-- ---- kinds and counts

same_kind : (h : ℕ) (k : Kind) (v : Values) (b : Bool) → is_of_kind k v ≡ true → is_of_kind k (cond b (corner_values h k v) v) ≡ true
same_kind h k v false e = e
same_kind h k (Numbers xs) true e = e
same_kind h k (Strings ts) true e = e

equal_by : (m n : ℕ) → m ≡ n → (m == n) ≡ true
equal_by m n e = grind (arith, nat_tests, e)

-- strings of which the first is this one
pub texts_from : (h : ℕ) (ts : List (List ℕ)) (t : List ℕ) → slice_get ts 0 ≡ Some t → map (λ _. t) (range_with_len 0 (corners_in h)) ≡ corner_texts h ts
texts_from h [] t e = absurd cc
texts_from h (x ∷ xs) t e = let same : x ≡ t = cc in ap (λ s. map (λ _. s) (range_with_len 0 (corners_in h))) (sym same)

texts_counted : (h : ℕ) (k : Kind) (ts : List (List ℕ)) → is_string k ≡ true → (length ts == width k * 4) ≡ true → (length (corner_texts h ts) == width k * corners_in h) ≡ true
texts_counted h kinds.Str [] s n = absurd cc
texts_counted h kinds.Str (t ∷ ts) s n =
    equal_by (length (map (λ _. t) (range_with_len 0 (corners_in h)))) (1 * corners_in h) (let long = length-map-range_with_len (λ _. t) 0 (corners_in h) in omega (arith, long))
texts_counted h kinds.Float ts s n = absurd cc
texts_counted h kinds.Color ts s n = absurd cc
texts_counted h kinds.Point ts s n = absurd cc
texts_counted h kinds.Vector ts s n = absurd cc
texts_counted h kinds.Normal ts s n = absurd cc
texts_counted h kinds.Pair ts s n = absurd cc

corners_counted : (h : ℕ) (k : Kind) (v : Values) → is_of_kind k v ≡ true → (count v == width k * 4) ≡ true → (count (corner_values h k v) == width k * corners_in h) ≡ true
corners_counted h k (Numbers xs) s n = equal_by (length (corner_numbers h (width k) xs)) (width k * corners_in h) (length-map-range_with_len (blended_at h (width k) xs) 0 (width k * corners_in h))
corners_counted h k (Strings ts) s n = texts_counted h k ts s n

still_counted : (h : ℕ) (class : Class) (k : Kind) (v : Values) → is_of_kind k v ≡ true → (count v == width k * values_in class quadric_extent) ≡ true
    → (count (cond (varies class) (corner_values h k v) v) == width k * values_in class (corner_extent h)) ≡ true
still_counted h Constant k v s n = n
still_counted h Uniform k v s n = n
still_counted h Varying k v s n = corners_counted h k v s n
still_counted h Vertex k v s n = corners_counted h k v s n
still_counted h FaceVarying k v s n = corners_counted h k v s n

-- each variable that is spread is of its kind, and counted
pub record AreSpread (h : ℕ) (ps : List Param) : Type 0 where
  pub kinds : All IsOfKind (spread h ps)
  pub counted : are_counted (corner_extent h) (spread h ps) ≡ true

pub are_spread : (h : ℕ) (ps : List Param) → All IsOfKind ps → are_counted quadric_extent ps ≡ true → AreSpread h ps
are_spread h [] kinds counted = record { kinds = all_none IsOfKind; counted = refl }
are_spread h (p ∷ ps) kinds counted =
    let kind = all_rest IsOfKind p ps kinds in
    let counts = and_parts (is_counted quadric_extent p) (are_counted quadric_extent ps) counted in
    let rest = are_spread h ps kind.1 counts.1 in
    record {
      kinds = all_first IsOfKind (spread_param h p) (spread h ps) (same_kind h p.kind p.values (varies p.class) kind.0) rest.kinds;
      counted = ap (λ b. b && are_counted (corner_extent h) (spread h ps)) (still_counted h p.class p.kind p.values kind.0 counts.0) ∙ rest.counted;
    }

pub names_kept : (h : ℕ) (ps : List Param) → names_of (spread h ps) ≡ names_of ps
names_kept h [] = refl
names_kept h (p ∷ ps) = ap (λ (ns : List (List ℕ)). p.name ∷ ns) (names_kept h ps)

-- ---- where patches stand

pub quadric_inside : (h k : ℕ) → k < 4 * h → IsSeat (corner_extent h) (quadric_seat h k)
quadric_inside h k l =
    let below : (x y : ℕ) → corner_in 5 (h + 1) x y < 5 * (h + 1) = λ x y. corner_below 5 (h + 1) (y % (h + 1)) (x % 5) (mod-lt y (omega arith)) (mod-lt x (omega arith)) in
    let x = k % 4 in
    let y = k / 4 in
    let all = four_below (5 * (h + 1)) _ _ _ _ (below x y) (below (x + 1) y) (below x (y + 1)) (below (x + 1) (y + 1)) in
    record { face = omega arith; points = all; corners = all }

pub quadric_there : (h k : ℕ) (ps : List Param) → k < 4 * h → All IsOfKind ps → are_counted quadric_extent ps ≡ true → All (IsThere (quadric_seat h k)) (spread h ps)
quadric_there h k ps l kinds counted =
    let are = are_spread h ps kinds counted in
    all_there (corner_extent h) (quadric_seat h k) (spread h ps) (quadric_inside h k l) are.kinds are.counted

-- ---- the order of the faults

pub quadric_is : (params : List Param) (form : Form) (object : Map) (room : ℕ) → are_counted quadric_extent params ≡ true → nat_lt room (4 * halves form) ≡ false →
    quadric_patches params form object room ≡ all_seated Quadric (spread (halves form) params) (quadric_seat (halves form)) (all_from (patch_at object form) 0 (4 * halves form))
quadric_is params form object room n f =
    let laid : Made = all_seated Quadric (spread (halves form) params) (quadric_seat (halves form)) (all_from (patch_at object form) 0 (4 * halves form)) in
    ap (λ b. cond (not b) (refused G5) (cond (nat_lt room (4 * halves form)) (refused M3) laid)) n
    ∙ ap (λ b. cond b (refused M3) laid) f
