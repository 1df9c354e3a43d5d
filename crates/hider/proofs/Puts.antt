-- What is put in at the samples of a list, cell by cell.
use Rattle.std.proofs.Common.{◌≡◌, ℕ, ◌+◌, ap, arith, sym, ◌∙◌, List, [], ◌∷◌, ◌++◌, map, slice_index_or}
use Rattle.std.specs.List.{range_with_len}
use Rattle.std.proofs.lemmas.List.Elements.{filter_map-append}
use Rattle.std.proofs.lemmas.List.Sums.{fold-append}
use Rattle.std.proofs.lemmas.List.FromFn.{map-range_with_len_more}
use Rattle.transforms.specs.declared.view.View.{View}
use Rattle.hider.specs.declared.sample.Sample.{Sample}
use Rattle.hider.specs.declared.sample_grid.SampleGrid.{SampleGrid}
use Rattle.hider.specs.declared.fragment.Fragment.{Fragment}
use Rattle.hider.specs.Cells.{Micropolygon}
use Rattle.hider.specs.Fragments.{fragment_of, covering}
use Rattle.hider.specs.Kept.{keep, keep_all}
use Rattle.hider.specs.Tiles.{HasPut, HavePut, sample_of}

has_put_more : (v : View) (ms : List Micropolygon) (m : Micropolygon) (s : Sample) (a b c : List Fragment) → HasPut (covering v ms) s a b → HasPut (covering v (m ∷ [])) s b c → HasPut (covering v (ms ++ m ∷ [])) s a c
has_put_more v ms m s a b c f g =
    g ∙ ap (λ (l : _). keep_all l (covering v (m ∷ []) s)) f
    ∙ sym (fold-append (λ k f. keep f k) a (covering v ms s) (covering v (m ∷ []) s))
    ∙ ap (λ (l : _). keep_all a l) (sym (filter_map-append (fragment_of v s) ms (m ∷ [])))

pub have_put_more : (v : View) (g : SampleGrid) (ms : List Micropolygon) (m : Micropolygon) (a b c : List (List Fragment)) → HavePut g (covering v ms) a b → HavePut g (covering v (m ∷ [])) b c →
    HavePut g (covering v (ms ++ m ∷ [])) a c
have_put_more v g ms m a b c f p n d h =
    has_put_more v ms m (sample_of g n) (slice_index_or a n d) (slice_index_or b n d) (slice_index_or c n d) (f n d h) (p n d h)

-- of the first n + 1 of numbered ones
pub have_put_next : (v : View) (g : SampleGrid) (k : ℕ → Micropolygon) (i : ℕ) (a b c : List (List Fragment)) → HavePut g (covering v (map k (range_with_len 0 i))) a b → HavePut g (covering v (k i ∷ [])) b c →
    HavePut g (covering v (map k (range_with_len 0 (i + 1)))) a c
have_put_next v g k i a b c f p =
    let z : 0 + i ≡ i = omega arith in
    rw (map-range_with_len_more k 0 i i z) (have_put_more v g (map k (range_with_len 0 i)) (k i) a b c f p)
