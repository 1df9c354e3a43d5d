-- What micropolygons show at samples, one after another.
use Rattle.std.proofs.Common.{◌≡◌, ℕ, ◌+◌, ◌<◌, ap, arith, refl, sym, subst, ◌∙◌, List, [], ◌∷◌, ◌++◌, length, get_or, set, map}
use Rattle.std.proofs.lemmas.Grind.{common_steps}
use Rattle.std.proofs.lemmas.List.{length-set, get_or_default}
use Rattle.std.specs.Prelude.{All}
use Rattle.std.specs.List.{range_with_len}
use Rattle.std.proofs.lemmas.List.FromFn.{map-range_with_len_more}
use Rattle.std.proofs.lemmas.List.Elements.{filter_map-append}
use Rattle.std.proofs.lemmas.List.Sums.{fold-append}
use Rattle.scene.specs.Scene.{FrameValue}
use Rattle.shader_binding.specs.Sets.{AcceptedValue}
use Rattle.hider.specs.declared.sample.Sample.{Sample}
use Rattle.hider.specs.Cells.{Micropolygon}
use Rattle.hider.specs.Fragments.{fragment_of, covering}
use Rattle.hider.specs.Kept.{keep, keep_all}
use Rattle.pixel_account.specs.declared.stacks.Stack.{Stack}
use Rattle.filter_ppm.proofs.Spans.{by_place}
use Rattle.buckets.specs.Pictures.{leaf_micropolygons}
use Rattle.pixel_account.specs.declared.points.LeafGrid.{LeafGrid}
use Rattle.pixel_account.specs.Grids.{IsLeafGrid}
use Rattle.pixel_account.proofs.Seen.{cells_are}
use Rattle.pixel_account.specs.Traces.{fragments_in, IsTrace}
use Rattle.pixel_account.specs.Stacks.{PutIn, PutInAll, PutInFirst, cells_in_grid}

-- nothing
pub put_nothing : (a : AcceptedValue) (f : FrameValue) (k : Stack) → PutIn a f [] k k
put_nothing a f k = record { sample = refl; weight = refl; shown = refl; each = λ h. h }

-- some that don't show there
pub put_unseen : (a : AcceptedValue) (f : FrameValue) (ns : List Micropolygon) (k : Stack) → covering f.camera ns k.sample ≡ [] → PutIn a f ns k k
put_unseen a f ns k none = record { sample = refl; weight = refl; shown = sym (ap (keep_all (fragments_in k.traces)) none); each = λ h. h }

-- one after another
pub put_both : (a : AcceptedValue) (f : FrameValue) (ms ns : List Micropolygon) (k l m : Stack) → PutIn a f ms k l → PutIn a f ns l m → PutIn a f (ms ++ ns) k m
put_both a f ms ns k l m p q = record {
  sample = q.sample ∙ p.sample;
  weight = q.weight ∙ p.weight;
  shown = q.shown ∙ ap (λ gs. keep_all gs (covering f.camera ns l.sample)) p.shown
      ∙ ap (λ (s : Sample). keep_all (keep_all (fragments_in k.traces) (covering f.camera ms k.sample)) (covering f.camera ns s)) p.sample
      ∙ sym (fold-append (λ r g. keep g r) (fragments_in k.traces) (covering f.camera ms k.sample) (covering f.camera ns k.sample))
      ∙ ap (keep_all (fragments_in k.traces)) (sym (filter_map-append (fragment_of f.camera k.sample) ms ns));
  each = λ h. subst (λ (s : Sample). All (IsTrace a f s) m.traces) p.sample (q.each (subst (λ (s : Sample). All (IsTrace a f s) l.traces) (sym p.sample) (p.each h)));
}

pub all_nothing : (a : AcceptedValue) (f : FrameValue) (ks : List Stack) → PutInAll a f [] ks ks
all_nothing a f ks = record { long = refl; each = λ k d lt. put_nothing a f (get_or ks k d) }

pub all_both : (a : AcceptedValue) (f : FrameValue) (ms ns : List Micropolygon) (ks ls is : List Stack) → PutInAll a f ms ks ls → PutInAll a f ns ls is → PutInAll a f (ms ++ ns) ks is
all_both a f ms ns ks ls is p q =
    let long = p.long in
    record {
      long = q.long ∙ p.long;
      each = λ k d lt. put_both a f ms ns (get_or ks k d) (get_or ls k d) (get_or is k d) (p.each k d lt) (q.each k d (omega (arith, lt, long)));
    }

-- the cells of a grid, one after another
pub put_more : (a : AcceptedValue) (f : FrameValue) (m : ℕ → Micropolygon) (n : ℕ) (k l j : Stack) → PutIn a f (map m (range_with_len 0 n)) k l → PutIn a f (m n ∷ []) l j → PutIn a f (map m (range_with_len 0 (n + 1))) k j
put_more a f m n k l j p q =
    let e : 0 + n ≡ n = omega arith in
    subst (λ ms. PutIn a f ms k j) (sym (map-range_with_len_more m 0 n n e)) (put_both a f (map m (range_with_len 0 n)) (m n ∷ []) k l j p q)

-- ---- stack after stack
set_same : (xs : List Stack) (i : ℕ) (y d : Stack) → i < length xs → get_or (set xs i y) i d ≡ y
set_same xs i y d lt = grind (arith, common_steps)

set_other : (xs : List Stack) (i k : ℕ) (y d : Stack) → (i ≡ k → ⊥) → get_or (set xs i y) k d ≡ get_or xs k d
set_other xs i k y d apart = grind (arith, common_steps)

pub first_more : (a : AcceptedValue) (f : FrameValue) (ns : List Micropolygon) (ks ls : List Stack) (i : ℕ) (old new : Stack) → i < length ls → old ≡ get_or ls i old → PutIn a f ns old new → PutInFirst a f ns i ks ls
    → PutInFirst a f ns (i + 1) ks (set ls i new)
first_more a f ns ks ls i old new low is put first =
    let long = first.long in
    record {
      long = length-set ls i new ∙ first.long;
      each = λ k d lt inside. by_place k i
          (λ below. subst (PutIn a f ns (get_or ks k d)) (sym (set_other ls i k new d (λ e. omega (arith, e, below)))) (first.each k d below inside))
          (λ same.
          let here : get_or ks i d ≡ old = sym (first.others i d (omega arith)) ∙ get_or_default ls i d old low ∙ sym is in
          let at : PutIn a f ns (get_or ks i d) (get_or (set ls i new) i d) = subst (λ o. PutIn a f ns o (get_or (set ls i new) i d)) (sym here) (subst (PutIn a f ns old) (sym (set_same ls i new d low)) put) in
          subst (λ j. PutIn a f ns (get_or ks j d) (get_or (set ls i new) j d)) (sym same) at)
          (λ above. absurd (omega (arith, lt, above)));
      others = λ k d far. set_other ls i k new d (λ e. omega (arith, e, far)) ∙ first.others k d (omega (arith, far));
    }

-- the cells of a leaf's grid are the leaf's micropolygons
pub put_as : (a : AcceptedValue) (f : FrameValue) (g : LeafGrid) (ks ls : List Stack) → IsLeafGrid a f g → PutInAll a f (cells_in_grid g) ks ls → PutInAll a f (leaf_micropolygons a f g.prim.now g.leaf.piece) ks ls
put_as a f g ks ls is put = subst (λ ms. PutInAll a f ms ks ls) (cells_are a f g is) put
