-- What shows at a sample is the same without a leaf that doesn't meet the sample's rectangle of pixels, and without one that lies behind an
-- opaque fragment there.
use Rattle.std.proofs.Common.{◌≡◌, ℕ, ◌*◌, ◌<◌, ◌≤◌, arith, refl, sym, ◌∙◌, ap, true, false, List, [], ◌∷◌, ◌++◌}
use Rattle.std.specs.Prelude.{ℤ, ◌≤ℤ◌, ◌<ℤ◌, int_lt, int_le}
use Rattle.std.proofs.lemmas.Bool.{and_parts}
use Rattle.std.proofs.lemmas.Int.{ints}
use Rattle.std.proofs.lemmas.List.Elements.{filter_map-append}
use Rattle.std.proofs.lemmas.List.Sums.{fold-append}
use Rattle.fixed_math.specs.Spots.{PixelRect, pixel_count}
use Rattle.patches.specs.Lists.{Each}
use Rattle.patches.specs.ListLaws.{Each-weaken}
use Rattle.patches.specs.Parts.{Part, IsPart}
use Rattle.transforms.specs.declared.view.View.{View}
use Rattle.bound_split.proofs.Meetings.{by_bool}
use Rattle.scene.specs.Scene.{PrimValue, FrameValue}
use Rattle.shader_binding.specs.Sets.{AcceptedValue}
use Rattle.hider.specs.declared.fragment.Fragment.{Fragment}
use Rattle.hider.specs.declared.sample.Sample.{Sample}
use Rattle.hider.specs.declared.sample_grid.SampleGrid.{SampleGrid}
use Rattle.hider.specs.Cells.{Micropolygon}
use Rattle.hider.specs.Composite.{is_opaque, cut}
use Rattle.hider.specs.Fragments.{fragment_of, covering, put_in, put_all, by_depth, fragments, IsSortedFrom, IsSorted}
use Rattle.hider.specs.Kept.{hides, blocks}
use Rattle.hider.specs.Samples.{sample_in}
use Rattle.hider.specs.Tiles.{TileValue, Shows, BlocksAll, rect_of, sample_count, sample_of}
use Rattle.hider.proofs.Orders.{put_in_sorted, by_depth_order}
use Rattle.hider.proofs.Pixels.{sample_time}
use Rattle.buckets.specs.Culled.{leaf_meets, leaf_nearest, IsShadedPrim}
use Rattle.buckets.specs.Pictures.{leaf_micropolygons}
use Rattle.buckets.specs.Sampled.{ShowsMore}
use Rattle.buckets.proofs.Culling.{left_out, no_nearer}
use Rattle.buckets.proofs.PassedOver.{blocks_behind}

-- what shows of further micropolygons goes behind what shows
pub further : (v : View) (ms ns : List Micropolygon) (s : Sample) → fragments v (ms ++ ns) s ≡ put_all (fragments v ms s) (covering v ns s)
unfolding by_depth
further v ms ns s = ap (put_all []) (filter_map-append (fragment_of v s) ms ns) ∙ fold-append (λ k f. put_in f k) [] (covering v ms s) (covering v ns s)

-- nothing is changed by a leaf that doesn't meet a rectangle of pixels, at each of its samples
pub left_out_same : (a : AcceptedValue) (f : FrameValue) (prim : PrimValue) (part : Part) (r : PixelRect) (xs ys n : ℕ) (ms : List Micropolygon) → IsShadedPrim a f prim → IsPart part → leaf_meets f prim r part ≡ false →
    n < pixel_count r * (xs * ys) → fragments f.camera (ms ++ leaf_micropolygons a f prim part) (sample_in xs ys r n) ≡ fragments f.camera ms (sample_in xs ys r n)
left_out_same a f prim part r xs ys n ms is part_is misses lt =
    let s = sample_in xs ys r n in
    further f.camera ms (leaf_micropolygons a f prim part) s ∙ ap (put_all (fragments f.camera ms s)) (left_out a f prim part r xs ys n is part_is misses lt)

-- ---- behind an opaque fragment
above_start : (m z : ℤ) (l : List Fragment) → IsSortedFrom m l → blocks z l ≡ true → m <ℤ z
above_start m z [] s e = absurd (cc)
above_start m z (g ∷ gs) s e =
    let low = s.0 in
    by_bool (hides z g)
    (λ o. let h = (and_parts (is_opaque g) (int_lt g.depth z) o).1 in omega (arith, ints))
    (λ o. let h = above_start g.depth z gs s.1 (rw o at e) in omega (arith, ints))

-- a fragment at z or behind it changes nothing of what can show where an opaque one lies nearer than z
behind_from : (m z : ℤ) (g : Fragment) (l : List Fragment) → IsSortedFrom m l → blocks z l ≡ true → z ≤ℤ g.depth → cut (put_in g l) ≡ cut l
behind_from m z g [] s e h = absurd (cc)
behind_from m z g (f ∷ fs) s e h =
    let nearer = above_start f.depth z (f ∷ fs) (omega (arith, ints), s.1) e in
    let order : int_le f.depth g.depth ≡ true = grind (arith, ints) in
    by_bool (is_opaque f)
    (λ o. simp (order, o))
    (λ o.
    let clear : hides z f ≡ false = simp o in
    let rest = behind_from f.depth z g fs s.1 (rw clear at e) h in
    simp (order, o, rest))

behind : (z : ℤ) (g : Fragment) (l : List Fragment) → IsSorted l → blocks z l ≡ true → z ≤ℤ g.depth → cut (put_in g l) ≡ cut l
behind z g [] s e h = absurd (cc)
behind z g (f ∷ fs) s e h = behind_from f.depth z g (f ∷ fs) (omega (arith, ints), s) e h

still_blocks : (z : ℤ) (g : Fragment) (l : List Fragment) → blocks z l ≡ true → blocks z (put_in g l) ≡ true
still_blocks z g [] e = absurd (cc)
still_blocks z g (f ∷ fs) e =
    by_bool (int_le f.depth g.depth)
    (λ order. by_bool (hides z f)
    (λ o. simp (order, o))
    (λ o. let rest = still_blocks z g fs (rw o at e) in simp (order, o, rest)))
    (λ order. by_bool (hides z g) (λ o. simp (order, o)) (λ o. simp (order, o, e)))

all_behind : (z : ℤ) (gs l : List Fragment) → IsSorted l → blocks z l ≡ true → Each (λ g. z ≤ℤ g.depth) gs → cut (put_all l gs) ≡ cut l
all_behind z [] l s e h = refl
all_behind z (g ∷ gs) l s e h = all_behind z gs (put_in g l) (put_in_sorted g l s) (still_blocks z g l e) h.1 ∙ behind z g l s e h.0

no_less : (z y : ℤ) (gs : List Fragment) → z ≤ℤ y → Each (λ g. y ≤ℤ g.depth) gs → Each (λ g. z ≤ℤ g.depth) gs
no_less z y [] h e = tt
no_less z y (g ∷ gs) h e = let first = e.0 in (omega (arith, ints), no_less z y gs h e.1)

-- nothing that can show is changed by a leaf that comes no nearer than z, where an opaque fragment lies before z
pub passed_over_same : (a : AcceptedValue) (f : FrameValue) (prim : PrimValue) (part : Part) (z : ℤ) (s : Sample) (ms : List Micropolygon) → IsShadedPrim a f prim → IsPart part → s.time ≤ 65535 → z ≤ℤ leaf_nearest f prim part →
    blocks z (fragments f.camera ms s) ≡ true → cut (fragments f.camera (ms ++ leaf_micropolygons a f prim part) s) ≡ cut (fragments f.camera ms s)
passed_over_same a f prim part z s ms is part_is time far opaque =
    let leaf = leaf_micropolygons a f prim part in
    ap cut (further f.camera ms leaf s)
    ∙ all_behind z (covering f.camera leaf s) (fragments f.camera ms s) (by_depth_order (covering f.camera ms s)).sorted opaque
    (no_less z (leaf_nearest f prim part) (covering f.camera leaf s) far (no_nearer a f prim part s is part_is time))

-- so all of it lies behind an opaque fragment where one lies before its least depth
pub lies_behind : (a : AcceptedValue) (f : FrameValue) (prim : PrimValue) (part : Part) (g : SampleGrid) (shown : Sample → List Fragment) (n : ℕ) → IsShadedPrim a f prim → IsPart part → BlocksAll (leaf_nearest f prim part) g shown
    → n < sample_count g → Each (λ k. blocks k.depth (shown (sample_of g n)) ≡ true) (covering f.camera (leaf_micropolygons a f prim part) (sample_of g n))
lies_behind a f prim part g shown n is part_is opaque lt =
    let s = sample_of g n in
    Each-weaken (λ k. leaf_nearest f prim part ≤ℤ k.depth) (λ k. blocks k.depth (shown s) ≡ true) (covering f.camera (leaf_micropolygons a f prim part) s)
    (λ k far. blocks_behind (shown s) (leaf_nearest f prim part) k.depth far (opaque n lt))
    (no_nearer a f prim part s is part_is (sample_time g.xs g.ys (rect_of g) n))

-- ---- what a tile shows as well
-- micropolygons that change nothing of what can show at the samples of a tile
changes_nothing : (v : View) (ns : List Micropolygon) (t : TileValue) →
    ((ms : List Micropolygon) (n : ℕ) → Shows t (fragments v ms) → n < sample_count t.grid → cut (fragments v (ms ++ ns) (sample_of t.grid n)) ≡ cut (fragments v ms (sample_of t.grid n))) → ShowsMore v ns t t
changes_nothing v ns t same ms shows = record {
  sorted = λ s. (by_depth_order (covering v (ms ++ ns) s)).sorted;
  kept = λ n d lt. shows.kept n d lt ∙ sym (same ms n shows lt);
}

-- a leaf that doesn't meet the tile
pub left_out_shows : (a : AcceptedValue) (f : FrameValue) (prim : PrimValue) (part : Part) (t : TileValue) → IsShadedPrim a f prim → IsPart part → leaf_meets f prim (rect_of t.grid) part ≡ false →
    ShowsMore f.camera (leaf_micropolygons a f prim part) t t
left_out_shows a f prim part t is part_is misses =
    changes_nothing f.camera (leaf_micropolygons a f prim part) t
    (λ ms n shows lt. ap cut (left_out_same a f prim part (rect_of t.grid) t.grid.xs t.grid.ys n ms is part_is misses lt))

-- and one that comes no nearer than z, where an opaque fragment lies before z at each sample
pub passed_over_shows : (a : AcceptedValue) (f : FrameValue) (prim : PrimValue) (part : Part) (t : TileValue) (z : ℤ) → IsShadedPrim a f prim → IsPart part → z ≤ℤ leaf_nearest f prim part →
    ((g : Sample → List Fragment) → Shows t g → BlocksAll z t.grid g) → ShowsMore f.camera (leaf_micropolygons a f prim part) t t
passed_over_shows a f prim part t z is part_is far opaque =
    changes_nothing f.camera (leaf_micropolygons a f prim part) t
    (λ ms n shows lt. passed_over_same a f prim part z (sample_of t.grid n) ms is part_is (sample_time t.grid.xs t.grid.ys (rect_of t.grid) n) far (opaque (fragments f.camera ms) shows n lt))
