-- The leaves of a frame that are still to come.
use Rattle.std.proofs.Common.{◌≡◌, ℕ, zero, suc, ◌+◌, ◌<◌, ◌≤◌, arith, refl, sym, ◌∙◌, ap, subst, Bool, true, false, cond, List, [], ◌∷◌, ◌++◌, length, map, filter, drop, get_or, append_assoc, Some, None}
use Rattle.std.proofs.lemmas.List.Elements.{filter-append}
use Rattle.fixed_math.specs.Spots.{PixelRect}
use Rattle.patches.specs.Parts.{Part, whole_of}
use Rattle.std.specs.Prelude.{ℤ}
use Rattle.bound_split.specs.declared.walk.Leaf.{Leaf}
use Rattle.bound_split.specs.Leaves.{pending}
use Rattle.bound_split.specs.Culling as culling
use Rattle.scene.specs.Scene.{PrimValue, FrameValue}
use Rattle.buckets.specs.Pictures.{decide, FrameLeaf, leaf_in, leaves_from, frame_leaves}
use Rattle.buckets.specs.Culled.{part_shows}
use Rattle.buckets.specs.Standing.{to_come, coming_from, IsLeafOf, Skips, GivesNext, shows_in}
use Rattle.buckets.proofs.Counting.{by_bool}

drop_at : {A : Type 0} (n : ℕ) (xs : List A) (x : A) → n < length xs → x ≡ get_or xs n x → drop n xs ≡ x ∷ drop (n + 1) xs
drop_at n [] x l is = absurd (omega (arith, l))
drop_at zero (y ∷ ys) x l is = ap (λ z. z ∷ ys) (sym is)
drop_at (suc n) (y ∷ ys) x l is =
    let e : suc n + 1 ≡ suc (n + 1) = omega arith in
    drop_at n ys x (omega (arith, l)) is ∙ ap (λ k. x ∷ drop k (y ∷ ys)) (sym e)

-- the leaves below the pieces of one primitive, and those of the primitives behind it
pub coming_at : (f : FrameValue) (n : ℕ) (p : PrimValue) (stack : List Part) → n < length f.prims → p ≡ get_or f.prims n p
    → to_come f n stack ≡ map (leaf_in p) (pending (decide f.camera p) stack) ++ leaves_from f (n + 1) (drop (n + 1) f.prims)
unfolding to_come
coming_at f n p stack l is = ap (λ ps. coming_from f n ps stack) (drop_at n f.prims p l is)

whole_from : (f : FrameValue) (n : ℕ) (ps : List PrimValue) → coming_from f n ps (whole_of n ∷ []) ≡ leaves_from f n ps
whole_from f n [] = refl
whole_from f n (p ∷ ps) = refl

-- from the whole of a primitive on
pub coming_whole : (f : FrameValue) (n : ℕ) → to_come f n (whole_of n ∷ []) ≡ leaves_from f n (drop n f.prims)
unfolding to_come
coming_whole f n = whole_from f n (drop n f.prims)

pub coming_all : (f : FrameValue) → to_come f 0 (whole_of 0 ∷ []) ≡ frame_leaves f
coming_all f = coming_whole f 0

none_behind : (f : FrameValue) (n : ℕ) (ps : List PrimValue) (stack : List Part) → length ps ≤ n → coming_from f n (drop n ps) stack ≡ []
none_behind f n ps stack l = ap (λ qs. coming_from f n qs stack) (drop_all n ps l)
  where
    drop_all : (n : ℕ) (ps : List PrimValue) → length ps ≤ n → drop n ps ≡ []
    drop_all zero [] l = refl
    drop_all zero (p ∷ ps) l = absurd (omega (arith, l))
    drop_all (suc n) [] l = refl
    drop_all (suc n) (p ∷ ps) l = drop_all n ps (omega (arith, l))

pub coming_none : (f : FrameValue) (n : ℕ) (stack : List Part) → length f.prims ≤ n → to_come f n stack ≡ []
unfolding to_come
coming_none f n stack l = none_behind f n f.prims stack l

-- ---- skipping
pub skips_none : (test : FrameLeaf → Bool) (xs : List FrameLeaf) → Skips test xs xs
skips_none test xs = record { skipped = []; split = refl; fail = refl }

pub skips_then : (test : FrameLeaf → Bool) (a b c : List FrameLeaf) → Skips test a b → Skips test b c → Skips test a c
skips_then test a b c h k = record {
  skipped = h.skipped ++ k.skipped;
  split = h.split ∙ ap (λ xs. h.skipped ++ xs) k.split ∙ sym (append_assoc h.skipped k.skipped c);
  fail = filter-append test h.skipped k.skipped ∙ ap (λ xs. xs ++ filter test k.skipped) h.fail ∙ k.fail;
}

-- a test of leaves is one of parts
failing : (test : Part → Bool) (p : Part) (ps : List Part) → filter test (p ∷ ps) ≡ [] → (test p ≡ false) × (filter test ps ≡ [])
failing test p ps h = by_bool (test p) (λ t. absurd (let k : p ∷ filter test ps ≡ [] = rw t at h in cc)) (λ f. (f, rw f at h))

pub none_meet : (f : FrameValue) (r : PixelRect) (back : ℤ → Bool) (prim : PrimValue) (ps : List Part) → filter (part_shows f prim r back) ps ≡ [] → filter (shows_in f r back) (map (leaf_in prim) ps) ≡ []
unfolding shows_in
none_meet f r back prim [] h = refl
none_meet f r back prim (p ∷ ps) h =
    let k = failing (part_shows f prim r back) p ps h in
    let rest = none_meet f r back prim ps k.1 in
    ap (λ b. cond b (leaf_in prim p ∷ filter (shows_in f r back) (map (leaf_in prim) ps)) (filter (shows_in f r back) (map (leaf_in prim) ps))) k.0 ∙ rest

pub meets_leaf : (f : FrameValue) (r : PixelRect) (back : ℤ → Bool) (prim : PrimValue) (part : Part) → part_shows f prim r back part ≡ true → shows_in f r back (leaf_in prim part) ≡ true
unfolding shows_in
meets_leaf f r back prim part h = h

map-append : {A B : Type 0} (g : A → B) (xs ys : List A) → map g (xs ++ ys) ≡ map g xs ++ map g ys
map-append g [] ys = refl
map-append g (x ∷ xs) ys = ap (λ r. g x ∷ r) (map-append g xs ys)

-- parts of a primitive are skipped, before others of it and leaves behind them
pub skips_in : (f : FrameValue) (r : PixelRect) (back : ℤ → Bool) (prim : PrimValue) (old new : List Part) (behind : List FrameLeaf) → culling.Skips (part_shows f prim r back) old new
    → Skips (shows_in f r back) (map (leaf_in prim) old ++ behind) (map (leaf_in prim) new ++ behind)
skips_in f r back prim old new behind k = record {
  skipped = map (leaf_in prim) k.skipped;
  split = ap (λ ps. map (leaf_in prim) ps ++ behind) k.split ∙ ap (λ ls. ls ++ behind) (map-append (leaf_in prim) k.skipped new) ∙ append_assoc (map (leaf_in prim) k.skipped) (map (leaf_in prim) new) behind;
  fail = none_meet f r back prim k.skipped k.fail;
}

-- ---- the next leaf
pub gives_leaf : (f : FrameValue) (r : PixelRect) (back : ℤ → Bool) (n : ℕ) (prim : PrimValue) (first : List FrameLeaf) (old new : List Part) (leaf : Leaf) → n < length f.prims → prim ≡ get_or f.prims n prim
    → Skips (shows_in f r back) first (to_come f n old) → culling.Skips (part_shows f prim r back) (pending (decide f.camera prim) old) (leaf.piece ∷ pending (decide f.camera prim) new)
    → part_shows f prim r back leaf.piece ≡ true → IsLeafOf f leaf (leaf_in prim leaf.piece)
    → GivesNext f (shows_in f r back) (Some leaf) first (to_come f n new)
gives_leaf f r back n prim first old new leaf l at' before skips meets is =
    let behind = leaves_from f (n + 1) (drop (n + 1) f.prims) in
    let d = decide f.camera prim in
    let here : Skips (shows_in f r back) (to_come f n old) (leaf_in prim leaf.piece ∷ to_come f n new) =
    subst (λ xs. Skips (shows_in f r back) xs (leaf_in prim leaf.piece ∷ to_come f n new)) (sym (coming_at f n prim old l at'))
    (subst (λ xs. Skips (shows_in f r back) (map (leaf_in prim) (pending d old) ++ behind) (leaf_in prim leaf.piece ∷ xs)) (sym (coming_at f n prim new l at'))
    (skips_in f r back prim (pending d old) (leaf.piece ∷ pending d new) behind skips)) in
    (leaf_in prim leaf.piece, is, meets_leaf f r back prim leaf.piece meets, skips_then (shows_in f r back) first (to_come f n old) (leaf_in prim leaf.piece ∷ to_come f n new) before here)

-- no leaf of a primitive is left: on with the next one
pub skips_prim : (f : FrameValue) (r : PixelRect) (back : ℤ → Bool) (n : ℕ) (prim : PrimValue) (first : List FrameLeaf) (old new : List Part) → n < length f.prims → prim ≡ get_or f.prims n prim
    → Skips (shows_in f r back) first (to_come f n old) → culling.Skips (part_shows f prim r back) (pending (decide f.camera prim) old) [] → new ≡ whole_of (n + 1) ∷ []
    → Skips (shows_in f r back) first (to_come f (n + 1) new)
skips_prim f r back n prim first old new l at' before skips is =
    let behind = leaves_from f (n + 1) (drop (n + 1) f.prims) in
    let d = decide f.camera prim in
    let here : Skips (shows_in f r back) (to_come f n old) (to_come f (n + 1) new) =
    subst (λ xs. Skips (shows_in f r back) xs (to_come f (n + 1) new)) (sym (coming_at f n prim old l at'))
    (subst (λ xs. Skips (shows_in f r back) (map (leaf_in prim) (pending d old) ++ behind) xs) (sym (ap (to_come f (n + 1)) is ∙ coming_whole f (n + 1)))
    (skips_in f r back prim (pending d old) [] behind skips)) in
    skips_then (shows_in f r back) first (to_come f n old) (to_come f (n + 1) new) before here

pub gives_none : (f : FrameValue) (r : PixelRect) (back : ℤ → Bool) (n : ℕ) (first : List FrameLeaf) (stack : List Part) → length f.prims ≤ n → Skips (shows_in f r back) first (to_come f n stack) → GivesNext f (shows_in f r back) None first (to_come f n stack)
gives_none f r back n first stack l before = (subst (λ xs. Skips (shows_in f r back) first xs) (coming_none f n stack l) before, coming_none f n stack l)
