-- The way through the leaves of a frame: what doesn't meet the samples' pixels shows at none of them.
use Rattle.std.proofs.Common.{◌≡◌, ℕ, zero, suc, ◌+◌, ◌-◌, ◌<◌, ◌≤◌, arith, refl, sym, ◌∙◌, ap, subst, Bool, false, List, [], ◌∷◌, ◌++◌, length, map, filter, drop, get_or, append_assoc, append-nil, length-append, Some}
use Rattle.std.specs.Prelude.{pos, ◌≤ℤ◌, All, Contains, slice_get}
use Rattle.std.proofs.lemmas.List.{drop_more, drop_all, map-append}
use Rattle.std.proofs.lemmas.List.Elements.{Contains-append_right}
use Rattle.std.proofs.lemmas.List.Concat.{flat_map-append}
use Rattle.fixed_math.specs.Spots.{PixelRect}
use Rattle.patches.specs.Parts.{Part, IsPart, whole_of, rect_of, low_u, high_u, low_v, high_v}
use Rattle.patches.proofs.Spans.{low_u-IsPart, high_u-IsPart, low_v-IsPart, high_v-IsPart}
use Rattle.quadrics.specs.AnyPatches.{patch_net, patch_width}
use Rattle.transforms.specs.Field.{IsView}
use Rattle.bound_split.specs.declared.splits.Decision.{Decision}
use Rattle.bound_split.specs.declared.splits.Decision.TheVariants.{SplitU, SplitV, Dice}
use Rattle.bound_split.specs.declared.sights.Sight.{Sight}
use Rattle.bound_split.specs.declared.extents.Extent.{Extent}
use Rattle.bound_split.specs.Culling.{Skips}
use Rattle.bound_split.specs.Decisions.{FitsPart}
use Rattle.bound_split.specs.Extents.{reaches}
use Rattle.bound_split.specs.Leaves.{depth, by_decision, leaves_to, leaves, pending}
use Rattle.bound_split.proofs.Culls.{skips-drop}
use Rattle.bound_split.proofs.Fitting.{decision-fits}
use Rattle.bound_split.proofs.Meetings.{PassesUp, meets_up, none_below, by_bool}
use Rattle.scene.specs.Scene.{PrimValue, FrameValue}
use Rattle.shader_binding.specs.Sets.{AcceptedValue}
use Rattle.hider.specs.declared.sample.Sample.{Sample}
use Rattle.hider.specs.Fragments.{covering}
use Rattle.buckets.specs.Culled.{IsShadedPrim}
use Rattle.buckets.specs.Pictures.{decide, prim_box, leaf_in, leaf_micropolygons, micropolygons_of, prim_leaves, leaves_from, frame_leaves, micropolygons}
use Rattle.buckets.specs.Sights.{IsSight}
use Rattle.buckets.proofs.Culling.{left_out}
use Rattle.buckets.proofs.LeafParts.{PartsOf, leaves_are_parts, few_leaves}
use Rattle.buckets.proofs.PrimBoxes.{prim_parts}
use Rattle.pixel_account.specs.declared.stacks.Stack.{Stack}
use Rattle.pixel_account.specs.Origins.{IsLeaf}
use Rattle.pixel_account.specs.Stacks.{meets_in, IsSampleOf, AreSamplesOf, PutInAll, GoesThrough, GoesOver}
use Rattle.pixel_account.proofs.Puts.{put_unseen, all_nothing, all_both}

-- ---- pieces
up : (f : FrameValue) (prim : PrimValue) (r : PixelRect) → IsView f.camera → pos 0 ≤ℤ prim.bound → PassesUp (meets_in f prim r)
unfolding meets_in
up f prim r view low = meets_up prim_box prim_parts prim f.camera prim.bound r view low

fits : (f : FrameValue) (prim : PrimValue) (q : Part) → FitsPart (decide f.camera prim q) q
fits f prim q = decision-fits f.camera prim.rate prim.bound (patch_width prim.patch) (patch_net prim.patch (rect_of q)) q

pub drops_piece : (f : FrameValue) (prim : PrimValue) (r : PixelRect) (all s : List Part) (p : Part) → IsView f.camera → pos 0 ≤ℤ prim.bound → IsPart p → meets_in f prim r p ≡ false
    → Skips (meets_in f prim r) all (pending (decide f.camera prim) (s ++ p ∷ [])) → Skips (meets_in f prim r) all (pending (decide f.camera prim) s)
drops_piece f prim r all s p view low part fails =
    let test : Part → Bool = meets_in f prim r in
    skips-drop (λ q b. b ≡ test q) (decide f.camera prim) test all s p
    (record { computed = λ q b is same. same; inherited = λ q is none. none_below test (decide f.camera prim) (up f prim r view low) (fits f prim) (16 - depth q) q is none }) part (sym fails)

-- what the sight of a piece tells
pub meets_as : (f : FrameValue) (prim : PrimValue) (part : Part) (r : PixelRect) (s : Sight) (told b : Bool) → IsSight f prim part s → told ≡ reaches s.extent.reach r → told ≡ b → meets_in f prim r part ≡ b
unfolding meets_in
meets_as f prim part r s told b is tells at' = ap (λ (e : Extent). reaches e.reach r) (sym is.extent) ∙ sym tells ∙ at'

-- ---- leaves
abbrev AreParts : List Part → Type 0
AreParts [] = Unit {0}
AreParts (p ∷ ps) = IsPart p × AreParts ps

both_parts : (ps qs : List Part) → AreParts ps → AreParts qs → AreParts (ps ++ qs)
both_parts [] qs h k = k
both_parts (p ∷ ps) qs h k = (h.0, both_parts ps qs h.1 k)

by_fitting : (P : List Part → Type 0) (d : Decision) (p : Part) (u v l : List Part) → FitsPart d p → (p.a < 8 → P u) → (p.b < 8 → P v) → P l → P (by_decision d u v l)
by_fitting P SplitU p u v l fits a b c = a fits
by_fitting P SplitV p u v l fits a b c = b fits
by_fitting P (Dice m n) p u v l fits a b c = c

parts_below : (decide : Part → Decision) → ((p : Part) → FitsPart (decide p) p) → (n : ℕ) (p : Part) → IsPart p → AreParts (leaves_to n decide p)
unfolding leaves_to
parts_below decide fits zero p is = (is, tt)
parts_below decide fits (suc n) p is =
    by_fitting AreParts (decide p) p _ _ _ (fits p)
    (λ room. both_parts (leaves_to n decide (low_u p)) (leaves_to n decide (high_u p)) (parts_below decide fits n (low_u p) (low_u-IsPart p is room)) (parts_below decide fits n (high_u p) (high_u-IsPart p is room)))
    (λ room. both_parts (leaves_to n decide (low_v p)) (leaves_to n decide (high_v p)) (parts_below decide fits n (low_v p) (low_v-IsPart p is room)) (parts_below decide fits n (high_v p) (high_v-IsPart p is room)))
    (is, tt)

leaves_parts : (f : FrameValue) (prim : PrimValue) (n : ℕ) → AreParts (leaves (decide f.camera prim) (whole_of n))
leaves_parts f prim n =
    parts_below (decide f.camera prim) (fits f prim) 16 (whole_of n) (record { depth_u = omega arith; depth_v = omega arith; place_u = omega arith; place_v = omega arith })

front_parts : (ps qs : List Part) → AreParts (ps ++ qs) → AreParts ps
front_parts [] qs h = tt
front_parts (p ∷ ps) qs h = (h.0, front_parts ps qs h.1)

behind_parts : (ps qs : List Part) → AreParts (ps ++ qs) → AreParts qs
behind_parts [] qs h = h
behind_parts (p ∷ ps) qs h = behind_parts ps qs h.1

part_of : (n : ℕ) (ps qs : List Part) (p : Part) → PartsOf n (ps ++ p ∷ qs) → p.prim ≡ n
part_of n [] qs p h = h.0
part_of n (o ∷ os) qs p h = part_of n os qs p h.1

-- ---- parts that don't meet the pixels
failing : (test : Part → Bool) (p : Part) (ps : List Part) → filter test (p ∷ ps) ≡ [] → (test p ≡ false) × (filter test ps ≡ [])
failing test p ps h = by_bool (test p) (λ t. absurd (let k : p ∷ filter test ps ≡ [] = rw t at h in cc)) (λ f. (f, rw f at h))

unseen : (a : AcceptedValue) (f : FrameValue) (prim : PrimValue) (r : PixelRect) (p : Part) (k : Stack) → IsShadedPrim a f prim → IsPart p → meets_in f prim r p ≡ false → IsSampleOf f.options.xs f.options.ys r k.sample
    → covering f.camera (leaf_micropolygons a f prim p) k.sample ≡ []
unfolding meets_in
unseen a f prim r p k is part misses s =
    subst (λ (t : Sample). covering f.camera (leaf_micropolygons a f prim p) t ≡ []) (sym s.is) (left_out a f prim p r f.options.xs f.options.ys s.number is part misses s.inside)

none_put : (a : AcceptedValue) (f : FrameValue) (prim : PrimValue) (r : PixelRect) (p : Part) (ks : List Stack) → IsShadedPrim a f prim → IsPart p → meets_in f prim r p ≡ false → AreSamplesOf f r ks
    → PutInAll a f (leaf_micropolygons a f prim p) ks ks
none_put a f prim r p ks is part misses inside = record {
  long = refl;
  each = λ k d lt. put_unseen a f (leaf_micropolygons a f prim p) (get_or ks k d) (unseen a f prim r p (get_or ks k d) is part misses (inside k d lt));
}

skipped_put : (a : AcceptedValue) (f : FrameValue) (prim : PrimValue) (r : PixelRect) (ps : List Part) (ks : List Stack) → IsShadedPrim a f prim → AreParts ps → filter (meets_in f prim r) ps ≡ [] → AreSamplesOf f r ks
    → PutInAll a f (micropolygons_of a f (map (leaf_in prim) ps)) ks ks
skipped_put a f prim r [] ks is parts none inside = all_nothing a f ks
skipped_put a f prim r (p ∷ ps) ks is parts none inside =
    let fails = failing (meets_in f prim r) p ps none in
    all_both a f (leaf_micropolygons a f prim p) (micropolygons_of a f (map (leaf_in prim) ps)) ks ks ks (none_put a f prim r p ks is parts.0 fails.0 inside) (skipped_put a f prim r ps ks is parts.1 fails.1 inside)

-- samples stay
pub stays_inside : (a : AcceptedValue) (f : FrameValue) (r : PixelRect) (ns : List _) (ks ls : List Stack) → PutInAll a f ns ks ls → AreSamplesOf f r ks → AreSamplesOf f r ls
stays_inside a f r ns ks ls put inside = λ k d lt.
    let long = put.long in
    let low : k < length ks = omega (arith, lt, long) in
    subst (λ (s : Sample). IsSampleOf f.options.xs f.options.ys r s) (sym (put.each k d low).sample) (inside k d low)

-- the primitive of a number can be shaded
pub shaded_at : (a : AcceptedValue) (f : FrameValue) (prim : PrimValue) (n : ℕ) → All (IsShadedPrim a f) f.prims → slice_get f.prims n ≡ Some prim → IsShadedPrim a f prim
shaded_at a f prim n all there = at (IsShadedPrim a f) f.prims n prim all there
  where
    at : {A : Type 0} (P : A → Type 0) (xs : List A) (k : ℕ) (x : A) → All P xs → slice_get xs k ≡ Some x → P x
    at P [] k x h is = absurd (cc)
    at P (y ∷ ys) zero x h is = let same : y ≡ x = cc in subst P same (h 0 y (omega arith))
    at P (y ∷ ys) (suc k) x h is = at P ys k x (λ j d l. h (suc j) d (omega (arith, l))) is

-- ---- one primitive
cells_both : (a : AcceptedValue) (f : FrameValue) (prim : PrimValue) (ps qs : List Part) → micropolygons_of a f (map (leaf_in prim) (ps ++ qs)) ≡ micropolygons_of a f (map (leaf_in prim) ps) ++ micropolygons_of a f (map (leaf_in prim) qs)
cells_both a f prim ps qs =
    ap (micropolygons_of a f) (map-append (leaf_in prim) ps qs) ∙ flat_map-append (λ x. leaf_micropolygons a f x.prim x.part) (map (leaf_in prim) ps) (map (leaf_in prim) qs)

pub goes_from : (a : AcceptedValue) (f : FrameValue) (prim : PrimValue) (n : ℕ) (ks : List Stack) (count : ℕ) (stack : List Part) → stack ≡ whole_of n ∷ [] → GoesThrough a f prim n ks ks count count stack
goes_from a f prim n ks count stack is = record {
  past = [];
  split = sym (ap (pending (decide f.camera prim)) is);
  put = all_nothing a f ks;
  counted = omega arith;
}

-- past those that are skipped and one that is put in
pub goes_past : (a : AcceptedValue) (f : FrameValue) (prim : PrimValue) (n : ℕ) (r : PixelRect) (ks ls is : List Stack) (count c c' : ℕ) (old new : List Part) (p : Part) → IsShadedPrim a f prim → AreSamplesOf f r ks
    → GoesThrough a f prim n ks ls count c old → Skips (meets_in f prim r) (pending (decide f.camera prim) old) (p ∷ pending (decide f.camera prim) new)
    → PutInAll a f (leaf_micropolygons a f prim p) ls is → c' ≡ c + 1 → GoesThrough a f prim n ks is count c' new
goes_past a f prim n r ks ls is count c c' old new p shaded inside g s put more =
    let d = decide f.camera prim in
    let cells : List Part → List _ = λ ps. micropolygons_of a f (map (leaf_in prim) ps) in
    let whole : leaves d (whole_of n) ≡ (g.past ++ s.skipped) ++ p ∷ pending d new = g.split ∙ ap (λ ps. g.past ++ ps) s.split ∙ sym (append_assoc g.past s.skipped (p ∷ pending d new)) in
    let parts = front_parts s.skipped (p ∷ pending d new) (behind_parts g.past (s.skipped ++ p ∷ pending d new) (subst AreParts (g.split ∙ ap (λ ps. g.past ++ ps) s.split) (leaves_parts f prim n))) in
    let here = stays_inside a f r (cells g.past) ks ls g.put inside in
    let skipped = all_both a f (cells g.past) (cells s.skipped) ks ls ls g.put (skipped_put a f prim r s.skipped ls shaded parts s.fail here) in
    let front = subst (λ ms. PutInAll a f ms ks ls) (sym (cells_both a f prim g.past s.skipped)) skipped in
    let one : leaf_micropolygons a f prim p ≡ cells (p ∷ []) = sym (append-nil (leaf_micropolygons a f prim p)) in
    let all = all_both a f (cells (g.past ++ s.skipped)) (leaf_micropolygons a f prim p) ks ls is front put in
    let l1 = length-append g.past s.skipped in
    let l2 = length-append (g.past ++ s.skipped) (p ∷ []) in
    let counted = g.counted in
    record {
      past = (g.past ++ s.skipped) ++ p ∷ [];
      split = whole ∙ sym (append_assoc (g.past ++ s.skipped) (p ∷ []) (pending d new));
      put = subst (λ ms. PutInAll a f ms ks is) (ap (λ ms. cells (g.past ++ s.skipped) ++ ms) one ∙ sym (cells_both a f prim (g.past ++ s.skipped) (p ∷ []))) all;
      counted = omega (arith, l1, l2, counted, more);
    }

-- past all that is left
pub goes_through : (a : AcceptedValue) (f : FrameValue) (prim : PrimValue) (n : ℕ) (r : PixelRect) (ks ls : List Stack) (count c : ℕ) (old : List Part) → IsShadedPrim a f prim → AreSamplesOf f r ks
    → GoesThrough a f prim n ks ls count c old → Skips (meets_in f prim r) (pending (decide f.camera prim) old) [] → PutInAll a f (micropolygons_of a f (prim_leaves f n prim)) ks ls
goes_through a f prim n r ks ls count c old shaded inside g s =
    let d = decide f.camera prim in
    let cells : List Part → List _ = λ ps. micropolygons_of a f (map (leaf_in prim) ps) in
    let whole : leaves d (whole_of n) ≡ g.past ++ s.skipped = g.split ∙ ap (λ ps. g.past ++ ps) (s.split ∙ append-nil s.skipped) in
    let parts = behind_parts g.past s.skipped (subst AreParts whole (leaves_parts f prim n)) in
    let here = stays_inside a f r (cells g.past) ks ls g.put inside in
    subst (λ ms. PutInAll a f ms ks ls) (sym (cells_both a f prim g.past s.skipped) ∙ ap cells (sym whole))
    (all_both a f (cells g.past) (cells s.skipped) ks ls ls g.put (skipped_put a f prim r s.skipped ls shaded parts s.fail here))

-- at most 65,536 leaves
pub few_past : (a : AcceptedValue) (f : FrameValue) (prim : PrimValue) (n : ℕ) (ks ls : List Stack) (count c : ℕ) (old : List Part) → GoesThrough a f prim n ks ls count c old → c ≤ count + 65536
few_past a f prim n ks ls count c old g =
    let d = decide f.camera prim in
    let few = few_leaves n d in
    let long = ap (λ (ps : List Part). length ps) g.split in
    let sum = length-append g.past (pending d old) in
    let counted = g.counted in
    omega (arith, few, long, sum, counted)

-- the leaf that is next
pub next_leaf : (a : AcceptedValue) (f : FrameValue) (prim : PrimValue) (n : ℕ) (r : PixelRect) (ks ls : List Stack) (count c : ℕ) (old new : List Part) (p : Part) (q s : ℕ) → GoesThrough a f prim n ks ls count c old
    → Skips (meets_in f prim r) (pending (decide f.camera prim) old) (p ∷ pending (decide f.camera prim) new) → decide f.camera prim p ≡ Dice q s → (p.prim ≡ n) × IsLeaf f prim n p q s
next_leaf a f prim n r ks ls count c old new p q s g skips sizes =
    let d = decide f.camera prim in
    let whole : leaves d (whole_of n) ≡ (g.past ++ skips.skipped) ++ p ∷ pending d new = g.split ∙ ap (λ ps. g.past ++ ps) skips.split ∙ sym (append_assoc g.past skips.skipped (p ∷ pending d new)) in
    let first : Contains (p ∷ pending d new) p = (0, omega arith, refl) in (
      part_of n (g.past ++ skips.skipped) (pending d new) p (subst (PartsOf n) whole (leaves_are_parts n d)),
      record {
        among = subst (λ ps. Contains ps p) (sym whole) (Contains-append_right (g.past ++ skips.skipped) (p ∷ pending d new) p first);
        sizes = sizes;
      },
    )

pub fewer_left : (test : Part → Bool) (ps qs : List Part) (p : Part) → Skips test ps (p ∷ qs) → length qs < length ps
fewer_left test ps qs p s =
    let long = ap (λ (l : List Part). length l) s.split in
    let sum = length-append s.skipped (p ∷ qs) in
    omega (arith, long, sum)

-- ---- all primitives
pub goes_over_from : (a : AcceptedValue) (f : FrameValue) (ks : List Stack) (count : ℕ) → GoesOver a f 0 ks ks count count
goes_over_from a f ks count = record { past = []; split = refl; put = all_nothing a f ks; counted = omega arith }

pub goes_over_one : (a : AcceptedValue) (f : FrameValue) (n : ℕ) (prim : PrimValue) (ks ls is : List Stack) (count c c' : ℕ) → n < length f.prims → prim ≡ get_or f.prims n prim → GoesOver a f n ks ls count c
    → PutInAll a f (micropolygons_of a f (prim_leaves f n prim)) ls is → c' ≤ c + 65536 → GoesOver a f (n + 1) ks is count c'
goes_over_one a f n prim ks ls is count c c' low at' g put more =
    let rest : drop n f.prims ≡ prim ∷ drop (n + 1) f.prims = drop_more f.prims n prim low ∙ ap (λ (p : PrimValue). p ∷ drop (n + 1) f.prims) (sym at') in
    let counted = g.counted in
    record {
      past = g.past ++ prim_leaves f n prim;
      split = g.split ∙ ap (λ ps. g.past ++ leaves_from f n ps) rest ∙ sym (append_assoc g.past (prim_leaves f n prim) (leaves_from f (n + 1) (drop (n + 1) f.prims)));
      put = subst (λ ms. PutInAll a f ms ks is) (sym (flat_map-append (λ x. leaf_micropolygons a f x.prim x.part) g.past (prim_leaves f n prim)))
          (all_both a f (micropolygons_of a f g.past) (micropolygons_of a f (prim_leaves f n prim)) ks ls is g.put put);
      counted = omega (arith, counted, more);
    }

pub goes_over : (a : AcceptedValue) (f : FrameValue) (n : ℕ) (ks ls : List Stack) (count c : ℕ) → length f.prims ≤ n → GoesOver a f n ks ls count c → PutInAll a f (micropolygons a f) ks ls
unfolding micropolygons
goes_over a f n ks ls count c far g =
    let whole : frame_leaves f ≡ g.past = g.split ∙ ap (λ ps. g.past ++ leaves_from f n ps) (drop_all n f.prims far) ∙ append-nil g.past in
    subst (λ xs. PutInAll a f (micropolygons_of a f xs) ks ls) (sym whole) g.put
