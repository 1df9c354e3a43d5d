-- A tile shows its frame: leaves that are left out of it or passed over change the composite of none of its samples.
use Rattle.std.proofs.Common.{◌≡◌, ℕ, ◌+◌, ◌<◌, arith, sym, ◌∙◌, ap, subst, refl, true, false, List, [], ◌∷◌, ◌++◌, append_assoc}
use Rattle.std.specs.Prelude.{ℤ}
use Rattle.std.proofs.lemmas.List.{append-nil}
use Rattle.std.proofs.lemmas.Int.{ints}
use Rattle.transforms.specs.declared.view.View.{View}
use Rattle.hider.specs.declared.fragment.Fragment.{Fragment}
use Rattle.hider.specs.declared.sample.Sample.{Sample}
use Rattle.hider.specs.Cells.{Micropolygon}
use Rattle.hider.specs.Composite.{cut, composite}
use Rattle.hider.specs.Fragments.{covering, fragments, IsSorted}
use Rattle.hider.specs.Kept.{blocks, keep_all}
use Rattle.hider.specs.Tiles.{sample_count, sample_of, rect_of}
use Rattle.hider.proofs.Cuts.{composite-cut}
use Rattle.hider.proofs.Keeps.{keep_all-cut}
use Rattle.hider.proofs.Orders.{by_depth_order}
use Rattle.hider.proofs.Pixels.{sample_time}
use Rattle.hider.proofs.Showings.{blocks-cut}
use Rattle.buckets.specs.Pictures.{FrameLeaf, frame_leaves, leaf_micropolygons, micropolygons_of}
use Rattle.buckets.specs.Standing.{IsDrawable}
use Rattle.buckets.specs.TileWalk.{Drawing, Counts, Walked, walked, tile_grid, meets_in, meets_tile, nearest, is_behind, is_shown, fragments_of, past_leaf, past_leaves}
use Rattle.buckets.proofs.Counting.{by_bool, past_shown, past_unshown}
use Rattle.buckets.proofs.Behind.{each_from}
use Rattle.buckets.proofs.Going.{micropolygons-more}
use Rattle.buckets.proofs.Laws.{IsLeafIn, AreLeavesIn, frame_leaves_in}
use Rattle.buckets.proofs.LeftOut.{further, left_out_same, passed_over_same}

-- at each sample of tile n the same can show of these leaves as of those
abbrev ShowSame : Drawing → ℕ → List FrameLeaf → List FrameLeaf → Type 0
ShowSame d n xs ys = (i : ℕ) → i < sample_count (tile_grid d n) → cut (fragments_of d xs (sample_of (tile_grid d n) i)) ≡ cut (fragments_of d ys (sample_of (tile_grid d n) i))

-- what comes behind both leaves the same
further_same : (v : View) (ms ks ns : List Micropolygon) (s : Sample) → cut (fragments v ms s) ≡ cut (fragments v ks s) → cut (fragments v (ms ++ ns) s) ≡ cut (fragments v (ks ++ ns) s)
further_same v ms ks ns s is =
    ap cut (further v ms ns s)
    ∙ sym (keep_all-cut (covering v ns s) (fragments v ms s))
    ∙ ap (λ l. keep_all l (covering v ns s)) is
    ∙ keep_all-cut (covering v ns s) (fragments v ks s)
    ∙ sym (ap cut (further v ks ns s))

blocks_same : (z : ℤ) (k l : List Fragment) → IsSorted k → IsSorted l → cut k ≡ cut l → blocks z k ≡ true → blocks z l ≡ true
blocks_same z k l sorted_k sorted_l is opaque = sym (blocks-cut z l sorted_l) ∙ ap (blocks z) (sym is) ∙ blocks-cut z k sorted_k ∙ opaque

-- a leaf that is shown
shown_same : (d : Drawing) (n : ℕ) (shown past : List FrameLeaf) (x : FrameLeaf) → ShowSame d n shown past → ShowSame d n (shown ++ x ∷ []) (past ++ x ∷ [])
shown_same d n shown past x same i lt =
    let s = sample_of (tile_grid d n) i in
    let v = d.frame.camera in
    let with_leaf : (xs : List FrameLeaf) → cut (fragments_of d (xs ++ x ∷ []) s) ≡ cut (fragments v (micropolygons_of d.accepted d.frame xs ++ leaf_micropolygons d.accepted d.frame x.prim x.part) s) =
    λ xs. ap (λ ms. cut (fragments v ms s)) (micropolygons-more d.accepted d.frame xs x) in
    with_leaf shown
    ∙ further_same v (micropolygons_of d.accepted d.frame shown) (micropolygons_of d.accepted d.frame past) (leaf_micropolygons d.accepted d.frame x.prim x.part) s (same i lt)
    ∙ sym (with_leaf past)

-- and one that isn't
unshown_same : (d : Drawing) (n : ℕ) (shown past : List FrameLeaf) (x : FrameLeaf) → IsLeafIn d x → is_shown d n shown x ≡ false → ShowSame d n shown past → ShowSame d n shown (past ++ x ∷ [])
unfolding is_shown is_behind meets_in nearest
unshown_same d n shown past x h is same i lt =
    let g = tile_grid d n in
    let s = sample_of g i in
    let v = d.frame.camera in
    let ms = micropolygons_of d.accepted d.frame past in
    let sorted : (xs : List FrameLeaf) → IsSorted (fragments_of d xs s) = λ xs. (by_depth_order (covering v (micropolygons_of d.accepted d.frame xs) s)).sorted in
    let none : cut (fragments v (ms ++ leaf_micropolygons d.accepted d.frame x.prim x.part) s) ≡ cut (fragments v ms s) =
    by_bool (meets_tile d n x)
    (λ meets. by_bool (is_behind d n shown x)
    (λ hidden.
    let e : 0 + i ≡ i = omega arith in
    let opaque : blocks (nearest d x) (fragments_of d shown s) ≡ true =
    subst (λ k. blocks (nearest d x) (fragments_of d shown (sample_of g k)) ≡ true) e (each_from (λ k. blocks (nearest d x) (fragments_of d shown (sample_of g k))) 0 (sample_count g) hidden i lt) in
    passed_over_same d.accepted d.frame x.prim x.part (nearest d x) s ms h.prim h.part (sample_time g.xs g.ys (rect_of g) i) (omega (arith, ints)) (blocks_same (nearest d x) (fragments_of d shown s) (fragments_of d past s) (sorted shown) (sorted past) (same i lt) opaque))
    (λ clear. absurd (cc)))
    (λ misses. ap cut (left_out_same d.accepted d.frame x.prim x.part (rect_of g) g.xs g.ys i ms h.prim h.part misses lt)) in
    same i lt ∙ sym none ∙ sym (ap (λ ks. cut (fragments v ks s)) (micropolygons-more d.accepted d.frame past x))

past_same : (d : Drawing) (n : ℕ) (w : Walked) (past : List FrameLeaf) (x : FrameLeaf) → IsLeafIn d x → ShowSame d n w.shown past → ShowSame d n (past_leaf d n w x).shown (past ++ x ∷ [])
past_same d n w past x h same =
    by_bool (is_shown d n w.shown x)
    (λ is. subst (λ (u : Walked). ShowSame d n u.shown (past ++ x ∷ [])) (sym (past_shown d n w x is)) (shown_same d n w.shown past x same))
    (λ is. subst (λ (u : Walked). ShowSame d n u.shown (past ++ x ∷ [])) (sym (past_unshown d n w x is)) (unshown_same d n w.shown past x h is same))

all_same : (d : Drawing) (n : ℕ) (w : Walked) (past xs : List FrameLeaf) → AreLeavesIn d xs → ShowSame d n w.shown past → ShowSame d n (past_leaves d n w xs).shown (past ++ xs)
all_same d n w past [] h same = subst (ShowSame d n w.shown) (sym (append-nil past)) same
all_same d n w past (x ∷ xs) h same =
    subst (ShowSame d n (past_leaves d n (past_leaf d n w x) xs).shown) (append_assoc past (x ∷ []) xs)
    (all_same d n (past_leaf d n w x) (past ++ x ∷ []) xs h.1 (past_same d n w past x h.0 same))

-- each sample of a tile has its colour from the leaves that the walk shows there
pub nothing_lost : (d : Drawing) (n i : ℕ) (c : Counts) → IsDrawable d → i < sample_count (tile_grid d n)
    → composite (fragments_of d (past_leaves d n (walked [] c) (frame_leaves d.frame)).shown (sample_of (tile_grid d n) i)) ≡ composite (fragments_of d (frame_leaves d.frame) (sample_of (tile_grid d n) i))
nothing_lost d n i c h lt =
    let s = sample_of (tile_grid d n) i in
    let all = frame_leaves d.frame in
    let shown = (past_leaves d n (walked [] c) all).shown in
    let same = all_same d n (walked [] c) [] all (frame_leaves_in d h) (λ j l. refl) i lt in
    sym (composite-cut (fragments_of d shown s)) ∙ ap composite same ∙ composite-cut (fragments_of d all s)
