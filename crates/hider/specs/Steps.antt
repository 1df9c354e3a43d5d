-- Samples by the steps of the shutter's interval in which their times lie, for private contracts alone.
use Rattle.std.specs.Prelude.{ℕ, zero, suc, ◌*◌, ◌/◌, ◌<◌, ◌≡◌, Bool, true, cond, nat_eq, Option, None, List, [], slice_index_or, length}
use Rattle.std.specs.List.{cons_option}
use Rattle.transforms.specs.declared.view.View.{View}
use Rattle.hider.specs.declared.fragment.Fragment.{Fragment}
use Rattle.hider.specs.declared.sample.Sample.{Sample}
use Rattle.hider.specs.declared.sample_grid.SampleGrid.{SampleGrid}
use Rattle.hider.specs.CellValues.{CellValues, micropolygon_of}
use Rattle.hider.specs.Fragments.{fragment_of}
use Rattle.hider.specs.Tiles.{HavePutBetween, sample_of}

-- whether the time of a sample lies in step k of eight
abbrev pub is_in_step : ℕ → Sample → Bool
is_in_step k s = nat_eq (s.time / 8192) k

-- what shows in that step, and nothing in the others
abbrev pub in_step : ℕ → (Sample → Option Fragment) → Sample → Option Fragment
in_step k shown s = cond (is_in_step k s) (shown s) None

-- what a cell that may move shows in that step
abbrev pub cell_in_step : ℕ → View → CellValues → Bool → Bool → ℕ → Sample → Option Fragment
cell_in_step k v cells one_sided flip i = in_step k (λ s. fragment_of v s (micropolygon_of cells one_sided flip i))

-- what something shows in that step is put in at the samples of the pixels from number `from` to below `to`
abbrev pub HavePutInStep : ℕ → ℕ → ℕ → SampleGrid → (Sample → Option Fragment) → List (List Fragment) → List (List Fragment) → Type 0
HavePutInStep k from to g shown old new = HavePutBetween (from * (g.xs * g.ys)) (to * (g.xs * g.ys)) g (λ s. cons_option (in_step k shown s) []) old new

-- the number of those among the first n samples
abbrev pub count_in : SampleGrid → ℕ → ℕ → ℕ
count_in g k zero = 0
count_in g k (suc n) = cond (is_in_step k (sample_of g n)) (suc (count_in g k n)) (count_in g k n)

-- these are the numbers of those among the first n samples, in order
pub record AreFirstOfStep (g : SampleGrid) (k n : ℕ) (numbers : List ℕ) : Type 0 where
  pub count : length numbers ≡ count_in g k n
  pub below : (i d : ℕ) → i < length numbers → slice_index_or numbers i d < n
  pub timed : (i d : ℕ) → i < length numbers → is_in_step k (sample_of g (slice_index_or numbers i d)) ≡ true
  pub order : (i d : ℕ) → i < length numbers → count_in g k (slice_index_or numbers i d) ≡ i

-- for the first pixels, how many of them lie in the pixels before
pub record AreStarts (g : SampleGrid) (k pixels : ℕ) (starts : List ℕ) : Type 0 where
  pub count : length starts ≡ pixels
  pub each : (p d : ℕ) → p < pixels → slice_index_or starts p d ≡ count_in g k (p * (g.xs * g.ys))
