-- What a tile shows.
use Rattle.std.proofs.Common.{◌≡◌, ℕ, ◌<◌, ◌≤◌, ap, arith, refl, sym, ◌∙◌, true, false, List, [], ◌∷◌, length, slice_index_or}
use Rattle.std.proofs.lemmas.Bool.{and_parts}
use Rattle.std.specs.Prelude.{ℤ, ◌≤ℤ◌, ◌<ℤ◌, int_lt}
use Rattle.std.proofs.lemmas.Int.{ints}
use Rattle.hider.specs.declared.fragment.Fragment.{Fragment}
use Rattle.hider.specs.declared.sample.Sample.{Sample}
use Rattle.hider.specs.declared.sample_grid.SampleGrid.{SampleGrid}
use Rattle.fixed_math.specs.declared.vec3.Vec3.{Vec3}
use Rattle.hider.specs.Composite.{is_opaque, cut, composite}
use Rattle.hider.specs.Fragments.{put_all, IsSortedFrom, IsSorted}
use Rattle.hider.specs.Kept.{keep_all, hides, blocks}
use Rattle.hider.specs.Tiles.{TileValue, Shows, AreEmpty, BlocksAll, HavePut, sample_of, sample_count}
use Rattle.hider.proofs.Cuts.{by_bool, composite-cut}
use Rattle.hider.proofs.Keeps.{keep_all-cut}
use Rattle.hider.proofs.Orders.{all_sorted}

-- with more put in at each sample
pub shows_more : (g : SampleGrid) (old new : List (List Fragment)) (h f : Sample → List Fragment) → HavePut g h old new → Shows (record { grid = g; lists = old }) f →
    Shows (record { grid = g; lists = new }) (λ s. put_all (f s) (h s))
shows_more g old new h f p s = record {
  sorted = λ x. all_sorted (h x) (f x) (s.sorted x);
  kept = λ n d l. p n d l ∙ ap (λ (k : _). keep_all k (h (sample_of g n))) (s.kept n d l) ∙ keep_all-cut (h (sample_of g n)) (f (sample_of g n));
}

-- where all lists are empty nothing shows
pub shows_empty : (g : SampleGrid) (lists : List (List Fragment)) → sample_count g ≤ length lists → AreEmpty lists → Shows (record { grid = g; lists = lists }) (λ s. [])
shows_empty g lists h e = record { sorted = λ s. tt; kept = λ n d l. e n d (omega (arith, l, h)) }

-- the composite of what is kept is that of all
pub shown_colour : (t : TileValue) (f : Sample → List Fragment) (n : ℕ) (d : List Fragment) (c : Vec3) → Shows t f → n < sample_count t.grid → c ≡ composite (slice_index_or t.lists n d) →
    c ≡ composite (f (sample_of t.grid n))
shown_colour t f n d c s h e = e ∙ ap composite (s.kept n d h) ∙ composite-cut (f (sample_of t.grid n))

-- ---- in a sorted list nothing blocks what lies before its start
blocks_above : (m z : ℤ) (l : List Fragment) → IsSortedFrom m l → blocks z l ≡ true → m <ℤ z
blocks_above m z [] s e = absurd (cc)
blocks_above m z (g ∷ gs) s e =
    let low = s.0 in
    by_bool (hides z g)
    (λ o. let h = (and_parts (is_opaque g) (int_lt g.depth z) o).1 in omega (arith, ints))
    (λ o. let h = blocks_above g.depth z gs s.1 (rw o at e) in omega (arith, ints))

no_block : (m z : ℤ) (l : List Fragment) → IsSortedFrom m l → z ≤ℤ m → blocks z l ≡ false
no_block m z l s h = by_bool (blocks z l) (λ b. absurd (let k = blocks_above m z l s b in omega (arith, ints))) (λ b. b)

-- a cut blocks as much as its list
blocks-cut_from : (m z : ℤ) (l : List Fragment) → IsSortedFrom m l → blocks z (cut l) ≡ blocks z l
blocks-cut_from m z [] s = refl
blocks-cut_from m z (g ∷ gs) s =
    by_bool (is_opaque g)
    (λ o. by_bool (int_lt g.depth z)
    (λ t. simp (o, t))
    (λ t. let n = no_block g.depth z gs s.1 (omega (arith, ints)) in simp (o, t, n)))
    (λ o. let i = blocks-cut_from g.depth z gs s.1 in simp (o, i))

pub blocks-cut : (z : ℤ) (l : List Fragment) → IsSorted l → blocks z (cut l) ≡ blocks z l
blocks-cut z [] s = refl
blocks-cut z (g ∷ gs) s = blocks-cut_from g.depth z (g ∷ gs) (omega (arith, ints), s)

-- at all samples
pub blocked_all : (t : TileValue) (f : Sample → List Fragment) (z : ℤ) → Shows t f → ((n : ℕ) (d : List Fragment) → n < sample_count t.grid → blocks z (slice_index_or t.lists n d) ≡ true) → BlocksAll z t.grid f
blocked_all t f z s b n h =
    sym (blocks-cut z (f (sample_of t.grid n)) (s.sorted (sample_of t.grid n))) ∙ ap (blocks z) (sym (s.kept n [] h)) ∙ b n [] h

pub blocked_each : (t : TileValue) (f : Sample → List Fragment) (z : ℤ) → Shows t f → BlocksAll z t.grid f → (n : ℕ) (d : List Fragment) → n < sample_count t.grid → blocks z (slice_index_or t.lists n d) ≡ true
blocked_each t f z s b n d h =
    ap (blocks z) (s.kept n d h) ∙ blocks-cut z (f (sample_of t.grid n)) (s.sorted (sample_of t.grid n)) ∙ b n h
