-- What holds of each leaf of a frame that can be drawn.
use Rattle.std.proofs.Common.{◌≡◌, ℕ, zero, suc, ◌+◌, ◌<◌, arith, refl, sym, ◌∙◌, ap, subst, List, [], ◌∷◌, ◌++◌, map, Some}
use Rattle.std.specs.Prelude.{All, slice_get}
use Rattle.std.proofs.lemmas.Int.{ints}
use Rattle.patches.specs.Parts.{Part, IsPart, rect_of as part_rect, whole_of, low_u, high_u, low_v, high_v}
use Rattle.quadrics.specs.AnyPatches.{patch_net, patch_width}
use Rattle.patches.proofs.Spans.{low_u-IsPart, high_u-IsPart, low_v-IsPart, high_v-IsPart}
use Rattle.bound_split.specs.declared.splits.Decision.{Decision}
use Rattle.bound_split.specs.declared.splits.Decision.TheVariants.{SplitU, SplitV, Dice}
use Rattle.bound_split.specs.Decisions.{FitsPart}
use Rattle.bound_split.specs.Leaves.{by_decision, leaves_to, leaves}
use Rattle.bound_split.proofs.Fitting.{decision-fits}
use Rattle.scene.specs.Scene.{PrimValue}
use Rattle.hider.specs.Tiles.{rect_of}
use Rattle.buckets.specs.Culled.{IsShadedPrim}
use Rattle.buckets.specs.Pictures.{decide, FrameLeaf, leaf_in, prim_leaves, leaves_from, frame_leaves}
use Rattle.buckets.specs.TileWalk.{Drawing, meets_in, nearest}
use Rattle.buckets.specs.Standing.{IsDrawable}
use Rattle.buckets.proofs.LeafParts.{PartsOf, leaves_are_parts}
use Rattle.buckets.proofs.LeftOut.{left_out_shows, passed_over_shows}
use Rattle.buckets.proofs.Going.{IsLawful, AreLawful}

-- ---- parts
abbrev pub AreParts : List Part → Type 0
AreParts [] = Unit {0}
AreParts (p ∷ ps) = IsPart p × AreParts ps

both_parts : (ps qs : List Part) → AreParts ps → AreParts qs → AreParts (ps ++ qs)
both_parts [] qs h k = k
both_parts (p ∷ ps) qs h k = (h.0, both_parts ps qs h.1 k)

by_fitting : (P : List Part → Type 0) (d : Decision) (p : Part) (u v l : List Part) → FitsPart d p → (p.a < 8 → P u) → (p.b < 8 → P v) → P l → P (by_decision d u v l)
by_fitting P SplitU p u v l fits a b c = a fits
by_fitting P SplitV p u v l fits a b c = b fits
by_fitting P (Dice m n) p u v l fits a b c = c

parts_below : (decide : Part → Decision) → ((p : Part) → FitsPart (decide p) p) → (n : ℕ) (p : Part) → IsPart p → AreParts (leaves_to n decide p)
unfolding leaves_to
parts_below decide fits zero p is = (is, tt)
parts_below decide fits (suc n) p is =
    by_fitting AreParts (decide p) p _ _ _ (fits p)
    (λ room. both_parts (leaves_to n decide (low_u p)) (leaves_to n decide (high_u p)) (parts_below decide fits n (low_u p) (low_u-IsPart p is room)) (parts_below decide fits n (high_u p) (high_u-IsPart p is room)))
    (λ room. both_parts (leaves_to n decide (low_v p)) (leaves_to n decide (high_v p)) (parts_below decide fits n (low_v p) (low_v-IsPart p is room)) (parts_below decide fits n (high_v p) (high_v-IsPart p is room)))
    (is, tt)

-- ---- leaves of a frame
-- a leaf's primitive is one of the frame's, at the place that its part tells
pub record IsLeafIn (d : Drawing) (x : FrameLeaf) : Type 0 where
  pub there : slice_get d.frame.prims x.part.prim ≡ Some x.prim
  pub part : IsPart x.part
  pub prim : IsShadedPrim d.accepted d.frame x.prim

abbrev pub AreLeavesIn : Drawing → List FrameLeaf → Type 0
AreLeavesIn d [] = Unit {0}
AreLeavesIn d (x ∷ xs) = IsLeafIn d x × AreLeavesIn d xs

both_leaves : (d : Drawing) (xs ys : List FrameLeaf) → AreLeavesIn d xs → AreLeavesIn d ys → AreLeavesIn d (xs ++ ys)
both_leaves d [] ys h k = k
both_leaves d (x ∷ xs) ys h k = (h.0, both_leaves d xs ys h.1 k)

leaves_of_prim : (d : Drawing) (n : ℕ) (prim : PrimValue) (ps : List Part) → slice_get d.frame.prims n ≡ Some prim → IsShadedPrim d.accepted d.frame prim → PartsOf n ps → AreParts ps → AreLeavesIn d (map (leaf_in prim) ps)
leaves_of_prim d n prim [] there is of parts = tt
leaves_of_prim d n prim (p ∷ ps) there is of parts =
    (record { there = ap (slice_get d.frame.prims) of.0 ∙ there; part = parts.0; prim = is }, leaves_of_prim d n prim ps there is of.1 parts.1)

leaves_of_prims : (d : Drawing) (n : ℕ) (prims : List PrimValue) → ((k : ℕ) (p : PrimValue) → slice_get prims k ≡ Some p → (slice_get d.frame.prims (n + k) ≡ Some p) × IsShadedPrim d.accepted d.frame p) → AreLeavesIn d (leaves_from d.frame n prims)
leaves_of_prims d n [] h = tt
leaves_of_prims d n (p ∷ ps) h =
    let first = h 0 p refl in
    let e : n + 0 ≡ n = omega arith in
    let there : slice_get d.frame.prims n ≡ Some p = subst (λ k. slice_get d.frame.prims k ≡ Some p) e first.0 in
    let decides = decide d.frame.camera p in
    let rest = leaves_of_prims d (n + 1) ps (λ k q is. let f : n + suc k ≡ (n + 1) + k = omega arith in let at = h (suc k) q is in (subst (λ j. slice_get d.frame.prims j ≡ Some q) f at.0, at.1)) in
    both_leaves d (prim_leaves d.frame n p) (leaves_from d.frame (n + 1) ps)
    (leaves_of_prim d n p (leaves decides (whole_of n)) there first.1 (leaves_are_parts n decides) (parts_below decides (λ q. decision-fits d.frame.camera p.rate p.bound (patch_width p.patch) (patch_net p.patch (part_rect q)) q) 16 (whole_of n) (record { depth_u = omega arith; depth_v = omega arith; place_u = omega arith; place_v = omega arith })))
    rest

pub frame_leaves_in : (d : Drawing) → IsDrawable d → AreLeavesIn d (frame_leaves d.frame)
frame_leaves_in d h = leaves_of_prims d 0 d.frame.prims (λ k p is. let e : 0 + k ≡ k = omega arith in (subst (λ j. slice_get d.frame.prims j ≡ Some p) (sym e) is, all_at (IsShadedPrim d.accepted d.frame) d.frame.prims k p h.prims is))
  where
    all_at : {A : Type 0} (P : A → Type 0) (xs : List A) (k : ℕ) (x : A) → All P xs → slice_get xs k ≡ Some x → P x
    all_at P [] k x h is = absurd (cc)
    all_at P (y ∷ ys) zero x h is = let same : y ≡ x = cc in subst P same (h 0 y (omega arith))
    all_at P (y ∷ ys) (suc k) x h is = all_at P ys k x (λ j d l. h (suc j) d (omega (arith, l))) is

leaf_behind : (d : Drawing) (xs : List FrameLeaf) (x : FrameLeaf) (ys : List FrameLeaf) → AreLeavesIn d (xs ++ x ∷ ys) → IsLeafIn d x
leaf_behind d [] x ys h = h.0
leaf_behind d (y ∷ xs) x ys h = leaf_behind d xs x ys h.1

pub leaf_is_in : (d : Drawing) (past : List FrameLeaf) (x : FrameLeaf) (rest : List FrameLeaf) → IsDrawable d → past ++ x ∷ rest ≡ frame_leaves d.frame → IsLeafIn d x
leaf_is_in d past x rest h is = leaf_behind d past x rest (subst (AreLeavesIn d) (sym is) (frame_leaves_in d h))

-- ---- laws
pub leaf_lawful : (d : Drawing) (n : ℕ) (x : FrameLeaf) → IsLeafIn d x → IsLawful d n x
unfolding meets_in nearest
leaf_lawful d n x h = record {
  outside = λ t grid misses. left_out_shows d.accepted d.frame x.prim x.part t h.prim h.part (ap (λ g. meets_in d.frame (rect_of g) x) grid ∙ misses);
  behind = λ t grid blocked. passed_over_shows d.accepted d.frame x.prim x.part t (nearest d x) h.prim h.part (omega (arith, ints)) blocked;
}

leaves_lawful : (d : Drawing) (n : ℕ) (xs : List FrameLeaf) → AreLeavesIn d xs → AreLawful d n xs
leaves_lawful d n [] h = tt
leaves_lawful d n (x ∷ xs) h = (leaf_lawful d n x h.0, leaves_lawful d n xs h.1)

pub lawful : (d : Drawing) (n : ℕ) → IsDrawable d → AreLawful d n (frame_leaves d.frame)
lawful d n h = leaves_lawful d n (frame_leaves d.frame) (frame_leaves_in d h)
