-- What a binary search finds among the numbers of a set's registers.
use Rattle.std.proofs.Common.{◌≡◌, sym, subst, ℕ, ◌<◌, ◌≤◌, ◌==◌, false, List, length, get_or, slice_index, arith, Result, Ok, Err, MatchResult, MatchOption}
use Rattle.std.specs.List.{list_any}
use Rattle.std.specs.List.Sorted.{IsStrictlyIncreasing, IsBinarySearchResult}
use Rattle.std.specs.Ordering.{nat_cmp}
use Rattle.std.specs.Result.{result_ok}
use Rattle.std.proofs.lemmas.List.Sorted.{searched}
use Rattle.std.proofs.lemmas.List.Kept.{AllPairs-from_increasing}
use Rattle.std.proofs.lemmas.List.Elements.{All-from_get_or}
use Rattle.std.proofs.lemmas.List.Folds.{list_any_none}
use Rattle.builtins.specs.declared.shape.Shape.{Shape}
use Rattle.builtins.specs.declared.shape.Shape.TheVariants as shapes
use Rattle.grid_code.specs.declared.register_set.RegisterSet.{RegisterSet}
use Rattle.grid_code.specs.declared.look_up_set.LookUpSet.{LookUpSet}
use Rattle.grid_code.specs.Uses.{numbers_of, is_in, is_one_of}

pub rises : (s : RegisterSet) (shape : Shape) → IsStrictlyIncreasing (numbers_of s shape)
rises s shapes.Number = s.numbers_rise
rises s shapes.Triple = s.triples_rise
rises s shapes.Word = s.words_rise

ordered : (xs : List ℕ) → IsStrictlyIncreasing xs → (i j : ℕ) → i ≤ j → j < length xs → get_or xs i 0 ≤ get_or xs j 0
ordered xs up i j le below = grind (arith, AllPairs-from_increasing xs up i j 0)

differs : (k i x y : ℕ) → (k < i → y < x) → (i ≤ k → x < y) → (y == x) ≡ false
differs k i x y low high = grind (arith, low, high)

found_in : (xs : List ℕ) (x : ℕ) (r : Result ℕ ℕ) →
    MatchResult r (λ i. (i < length xs) × (get_or xs i 0 ≡ x)) (λ i. (i ≤ length xs) × ((k : ℕ) → k < i → get_or xs k 0 < x) × ((k : ℕ) → i ≤ k → k < length xs → x < get_or xs k 0)) →
    MatchOption (result_ok r) (list_any (λ k. k == x) xs ≡ false) (λ i. (i < length xs) × (slice_index xs i ≡ x))
found_in xs x (Ok i) h = h
found_in xs x (Err i) h = list_any_none (λ k. k == x) xs (All-from_get_or (λ k. (k == x) ≡ false) xs 0 (λ k below. differs k i x (get_or xs k 0) (h.1 k) (λ up. h.2 k up below)))

pub found : (s : RegisterSet) (shape : Shape) (x : ℕ) (xs : List ℕ) (r : Result ℕ ℕ) → xs ≡ numbers_of s shape → IsBinarySearchResult (λ y. nat_cmp y x) xs r →
    MatchOption (result_ok r) (is_in s shape x ≡ false) (λ i. (i < length (numbers_of s shape)) × (slice_index (numbers_of s shape) i ≡ x))
found s shape x xs r e h =
    subst (λ zs. MatchOption (result_ok r) (list_any (λ k. k == x) zs ≡ false) (λ i. (i < length zs) × (slice_index zs i ≡ x))) e
    (found_in xs x r (searched xs x r h (ordered xs (subst IsStrictlyIncreasing (sym e) (rises s shape)))))

pub found_node : (s : LookUpSet) (x : ℕ) (xs : List ℕ) (r : Result ℕ ℕ) → xs ≡ s.nodes → IsBinarySearchResult (λ y. nat_cmp y x) xs r →
    MatchOption (result_ok r) (is_one_of s.nodes x ≡ false) (λ i. (i < length s.nodes) × (slice_index s.nodes i ≡ x))
found_node s x xs r e h =
    subst (λ zs. MatchOption (result_ok r) (list_any (λ k. k == x) zs ≡ false) (λ i. (i < length zs) × (slice_index zs i ≡ x))) e
    (found_in xs x r (searched xs x r h (ordered xs (subst IsStrictlyIncreasing (sym e) s.rise))))
