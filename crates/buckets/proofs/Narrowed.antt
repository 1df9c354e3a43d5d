-- Primitives that can't show in a rectangle of pixels are left out.
use Rattle.std.proofs.Common.{◌≡◌, ℕ, zero, suc, ◌+◌, ◌-◌, ◌*◌, ◌<◌, ◌≤◌, arith, refl, sym, ◌∙◌, ap, subst, Bool, true, false, ◌&&◌, List, [], ◌∷◌, ◌++◌, filter, drop, Option, Some, None}
use Rattle.std.specs.Prelude.{ℤ, pos, int_lt, int_le, not, slice_get}
use Rattle.std.proofs.lemmas.Bool.{and_parts}
use Rattle.std.proofs.lemmas.Int.{ints}
use Rattle.fixed_math.specs.Spots.{PixelRect}
use Rattle.patches.specs.Parts.{Part, IsPart, whole_of, rect_of}
use Rattle.buckets.specs.Pictures.{prim_box}
use Rattle.transforms.specs.Field.{IsView}
use Rattle.bound_split.specs.declared.extents.Reach.{Reach}
use Rattle.bound_split.specs.declared.extents.Reach.TheVariants.{Nowhere, Everywhere, Within}
use Rattle.bound_split.specs.declared.extents.Extent.{Extent}
use Rattle.bound_split.specs.Extents.{extent_of, overlaps, reaches}
use Rattle.bound_split.specs.Leaves.{leaves}
use Rattle.scene.specs.Scene.{PrimValue, FrameValue}
use Rattle.buckets.specs.Culled.{leaf_meets, leaf_nearest, part_shows, HoldsBehind}
use Rattle.buckets.specs.Narrowing.{LiesIn, Misses, IsWholeExtent}
use Rattle.buckets.specs.Pictures.{decide, FrameLeaf, prim_leaves, leaves_from}
use Rattle.buckets.specs.Standing.{Skips, shows_in, to_come}
use Rattle.buckets.proofs.Coming.{coming_whole, none_meet, skips_none, skips_then}
use Rattle.buckets.proofs.Counting.{by_bool}
use Rattle.buckets.proofs.PassedOver.{none_shows_below}

-- ---- rectangles in others
overlaps-more : (first last : ℤ) (from to from' to' : ℕ) → from' ≤ from → to ≤ to' → overlaps first last from to ≡ true → overlaps first last from' to' ≡ true
overlaps-more first last from to from' to' h k e =
    let both = and_parts (int_lt first (pos (256 * to))) (int_le (pos (256 * from)) last) e in
    let x = both.0 in let y = both.1 in
    let p : int_lt first (pos (256 * to')) ≡ true = grind (arith, ints) in
    let q : int_le (pos (256 * from')) last ≡ true = grind (arith, ints) in
    rw (p, q) refl

reaches-more : (reach : Reach) (r r' : PixelRect) → LiesIn r r' → reaches reach r ≡ true → reaches reach r' ≡ true
reaches-more Nowhere r r' h e = e
reaches-more Everywhere r r' h e = e
reaches-more (Within left top right bottom) r r' h e =
    let both = and_parts (overlaps left right r.left r.right) (overlaps top bottom r.top r.bottom) e in
    let x : overlaps left right r'.left r'.right ≡ true = overlaps-more left right r.left r.right r'.left r'.right h.left h.right both.0 in
    let y : overlaps top bottom r'.top r'.bottom ≡ true = overlaps-more top bottom r.top r.bottom r'.top r'.bottom h.top h.bottom both.1 in
    ap (λ c. c && overlaps top bottom r'.top r'.bottom) x ∙ y

pub misses_part : (f : FrameValue) (r r' : PixelRect) (k : ℕ) → LiesIn r r' → Misses f r' k → Misses f r k
misses_part f r r' k lies misses prim there =
    let m = misses prim there in
    let reach = (extent_of f.camera prim.bound (prim_box prim (rect_of (whole_of k)))).reach in
    (m.0, by_bool (reaches reach r) (λ t. absurd (let s = reaches-more reach r r' lies t in let n = m.1 in cc)) (λ e. e))

-- what the extent tells
pub misses_by : (f : FrameValue) (r : PixelRect) (k : ℕ) (e : Extent) (met : Bool) → IsWholeExtent f k e → met ≡ reaches e.reach r → met ≡ false → Misses f r k
misses_by f r k e met is tells fails prim there =
    let w = is prim there in
    (w.0, ap (λ (x : Extent). reaches x.reach r) (sym w.1) ∙ sym tells ∙ fails)

whole_part : (k : ℕ) → IsPart (whole_of k)
whole_part k = record { depth_u = omega arith; depth_v = omega arith; place_u = omega arith; place_v = omega arith }

-- ---- a primitive that misses has no leaf that shows
hidden_whole : (f : FrameValue) (r : PixelRect) (back : ℤ → Bool) (k : ℕ) (prim : PrimValue) → leaf_meets f prim r (whole_of k) ≡ false → part_shows f prim r back (whole_of k) ≡ false
hidden_whole f r back k prim e = ap (λ b. b && not (back (leaf_nearest f prim (whole_of k)))) e

none_of_prim : (f : FrameValue) (r : PixelRect) (back : ℤ → Bool) (k : ℕ) (prim : PrimValue) → IsView f.camera → HoldsBehind back → slice_get f.prims k ≡ Some prim → Misses f r k → filter (shows_in f r back) (prim_leaves f k prim) ≡ []
none_of_prim f r back k prim view up there misses =
    let m = misses prim there in
    none_meet f r back prim (leaves (decide f.camera prim) (whole_of k)) (none_shows_below f prim r back (whole_of k) view m.0 up (whole_part k) (hidden_whole f r back k prim m.1))

-- ---- over a gap
drop_some : (n : ℕ) (ps : List PrimValue) (p : PrimValue) → slice_get ps n ≡ Some p → drop n ps ≡ p ∷ drop (suc n) ps
drop_some n [] p is = absurd (cc)
drop_some zero (q ∷ ps) p is = let e : q ≡ p = cc in ap (λ x. x ∷ ps) e
drop_some (suc n) (q ∷ ps) p is = drop_some n ps p is

drop_none : (n : ℕ) (ps : List PrimValue) → slice_get ps n ≡ None → drop n ps ≡ []
drop_none zero [] is = refl
drop_none (suc n) [] is = refl
drop_none zero (q ∷ ps) is = absurd (cc)
drop_none (suc n) (q ∷ ps) is = drop_none n ps is

none_further : (n : ℕ) (ps : List PrimValue) → slice_get ps n ≡ None → slice_get ps (suc n) ≡ None
none_further zero [] is = refl
none_further (suc n) [] is = refl
none_further zero (q ∷ ps) is = absurd (cc)
none_further (suc n) (q ∷ ps) is = none_further n ps is

abbrev behind : FrameValue → ℕ → List FrameLeaf
behind f n = leaves_from f n (drop n f.prims)

skips_one : (f : FrameValue) (r : PixelRect) (back : ℤ → Bool) (n : ℕ) (o : Option PrimValue) → slice_get f.prims n ≡ o → IsView f.camera → HoldsBehind back → Misses f r n → Skips (shows_in f r back) (behind f n) (behind f (n + 1))
skips_one f r back n None there view up misses =
    let e : n + 1 ≡ suc n = omega arith in
    let here = drop_none n f.prims there in
    let next = ap (λ k. drop k f.prims) e ∙ drop_none (suc n) f.prims (none_further n f.prims there) in
    record { skipped = []; split = ap (λ ps. leaves_from f n ps) here ∙ sym (ap (λ ps. leaves_from f (n + 1) ps) next); fail = refl }
skips_one f r back n (Some prim) there view up misses =
    let e : n + 1 ≡ suc n = omega arith in
    record {
      skipped = prim_leaves f n prim;
      split = ap (λ ps. leaves_from f n ps) (drop_some n f.prims prim there) ∙ ap (λ k. prim_leaves f n prim ++ leaves_from f (n + 1) (drop k f.prims)) (sym e);
      fail = none_of_prim f r back n prim view up there misses;
    }

pub skips_gap : (f : FrameValue) (r : PixelRect) (back : ℤ → Bool) (d n m : ℕ) → IsView f.camera → HoldsBehind back → m ≡ d + n → ((k : ℕ) → n ≤ k → k < m → Misses f r k) → Skips (shows_in f r back) (behind f n) (behind f m)
skips_gap f r back zero n m view up is misses =
    let e : n ≡ m = omega (arith, is) in
    subst (λ (j : ℕ). Skips (shows_in f r back) (behind f n) (behind f j)) e (skips_none (shows_in f r back) (behind f n))
skips_gap f r back (suc d) n m view up is misses =
    let e : d + n + 1 ≡ m = omega (arith, is) in
    skips_then (shows_in f r back) (behind f n) (behind f (d + n)) (behind f m)
    (skips_gap f r back d n (d + n) view up refl (λ k l h. misses k l (omega (arith, h, e))))
    (subst (λ (j : ℕ). Skips (shows_in f r back) (behind f (d + n)) (behind f j)) e (skips_one f r back (d + n) (slice_get f.prims (d + n)) refl view up (misses (d + n) (omega arith) (omega (arith, e)))))

-- from the whole of a primitive to that of a later one, of which none between them shows
pub skips_to : (f : FrameValue) (r : PixelRect) (back : ℤ → Bool) (n m : ℕ) (first : List FrameLeaf) (new : List Part) → IsView f.camera → HoldsBehind back → n < m → ((k : ℕ) → n < k → k < m → Misses f r k) → new ≡ whole_of m ∷ []
    → Skips (shows_in f r back) first (to_come f (n + 1) (whole_of (n + 1) ∷ [])) → Skips (shows_in f r back) first (to_come f m new)
skips_to f r back n m first new view up further misses is before =
    let d = m - (n + 1) in
    let far : m ≡ d + (n + 1) = omega (arith, further) in
    let there = skips_gap f r back d (n + 1) m view up far (λ k l h. misses k (omega (arith, l)) h) in
    subst (λ (xs : List FrameLeaf). Skips (shows_in f r back) first xs) (sym (ap (to_come f m) is ∙ coming_whole f m))
    (skips_then (shows_in f r back) first (behind f (n + 1)) (behind f m) (subst (λ (xs : List FrameLeaf). Skips (shows_in f r back) first xs) (coming_whole f (n + 1)) before) there)
